-- The register that a caller lends: the number of logins, the mode, and the lists as they are when the function is called.
use Rattle.std.specs.Prelude.{ℕ, Bool, true, List, []}
use Rattle.std.specs.Borrow.{Bor}
use denote.Triple.Both.{Both}
use Rattle.register.specs.Register.{Register, register_by, register_of}
use Rattle.register.specs.declared.Labels.{Labels}
use Rattle.register.specs.declared.Pairs.{Pairs}
use Rattle.register.specs.declared.Register as code

-- The register that is lent, as it is when the function is called.
abbrev pub register_lent : code.Register → Register
register_lent r = register_by r.logins r.labels.classes.now r.labels.clients.now r.by_pairs r.pairs.firsts.now r.pairs.seconds.now

-- Its folders and its mode with the pairs, for the rules that look at no login.
abbrev pub folders_lent : code.Register → Register
folders_lent r = register_by 0 r.labels.classes.now r.labels.clients.now r.by_pairs r.pairs.firsts.now r.pairs.seconds.now

-- Its folders alone, by classes, for the rules that look at no login and no conflict.
abbrev pub labels_lent : {X : Type 0} → Both Labels X → Register
labels_lent labels = register_of 0 labels.entry.classes.now labels.entry.clients.now

-- Its pairs alone.
abbrev pub pairs_lent : {X : Type 0} → Both Pairs X → Register
pairs_lent pairs = register_by 0 [] [] true pairs.entry.firsts.now pairs.entry.seconds.now

-- Its clients and pairs, for the rules that look at no class.
abbrev pub clients_lent : {X Y : Type 0} → Both (Bor (List ℕ)) X → Both Pairs Y → Register
clients_lent clients pairs = register_by 0 [] clients.entry.now true pairs.entry.firsts.now pairs.entry.seconds.now

-- A register that is lent list by list.
abbrev pub lent_by : {X Y Z W : Type 0} → ℕ → Both (Bor (List ℕ)) X → Both (Bor (List ℕ)) Y → Bool → Both (Bor (List ℕ)) Z → Both (Bor (List ℕ)) W → Register
lent_by logins classes clients by_pairs firsts seconds =
    register_by logins classes.entry.now clients.entry.now by_pairs firsts.entry.now seconds.entry.now
