-- Internal: how refusal 3 is sought in one pass, and how by marks where there are few folders. A mark is one more than a folder's number, or 0.
-- No rule of document 01 stands here.
use Rattle.std.specs.Prelude.{ℕ, ◌-◌, ◌≤◌, ◌<◌, ◌%◌, ◌≡◌, Bool, not, ◌&&◌, List, [], length, get_or, eqb, ltb}
use Rattle.vocabulary.specs.Those.{those, some}
use Rattle.register.specs.Register.{Register, earlier}

-- No folder below n differs in class alone from an earlier one.
abbrev pub Clean : Register → ℕ → Type 0
Clean r n = those (λ f. some (earlier r f)) n ≡ []

-- Folder f has another class than the folder before `past`, if there is one.
abbrev pub clash : List ℕ → ℕ → ℕ → Bool
clash classes f past = ltb 0 past && not (eqb (get_or classes (past - 1) 0) (get_or classes f 0))

-- No folder before f is of its client.
abbrev pub Alone : List ℕ → ℕ → Type 0
Alone clients f = (g : ℕ) → g < f → get_or clients g 0 ≡ get_or clients f 0 → ⊥

-- A mark to be believed of folder f: if it is 0, no earlier folder is of f's client; if it is 1 to f, the folder before it is one. A larger one
-- tells nothing.
pub record Telling (clients : List ℕ) (f mark : ℕ) : Type 0 where
  pub none : mark ≡ 0 → Alone clients f
  pub one : 0 < mark → mark ≤ f → get_or clients (mark - 1) 0 ≡ get_or clients f 0

-- A client's place among the marks.
abbrev pub mark_of : ℕ → ℕ
mark_of c = c % 128

-- The marks after the folders below n: there is one in the place of every such folder's client, and each is that of some folder below n.
pub record Marked (clients marks : List ℕ) (n : ℕ) : Type 0 where
  pub places : length marks ≡ 128
  pub left : (g : ℕ) → g < n → 0 < get_or marks (mark_of (get_or clients g 0)) 0
  pub within : (s : ℕ) → s < 128 → get_or marks s 0 ≤ n
