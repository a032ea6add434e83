-- Internal: the folders' lines as the code files them. No rule of document 01 stands here.
use Rattle.std.specs.Prelude.{ℕ, ◌≡◌, Option, Some, None, length, replicate}
use Rattle.std.proofs.lemmas.List.Edits.{sets}
use Rattle.ids.specs.declared.Label.{Label}
use Rattle.ids.specs.Label.{label_of}
use Rattle.desk_lines.specs.Lines.{Line, logins_line, folder_line, request_line, ill_line}
use Rattle.desk_opening.specs.declared.heading.Filing.{Filing}
use Rattle.desk_opening.specs.Folders.{Filed}

-- The folder that a line gives, and the place after it.
abbrev pub folder_of : Line → Option (Label × ℕ)
folder_of (folder_line class client next) = Some (label_of class client, next)
folder_of (logins_line n next) = None
folder_of (request_line kind login o next) = None
folder_of ill_line = None

-- Folders that are filed: their labels from the start of two lists on, as far as the lists reach.
abbrev pub filing_of : Filed → Filing
filing_of f =
    record {
      folders = length f.classes;
      classes = sets (replicate 512 0) 0 f.classes;
      clients = sets (replicate 512 0) 0 f.clients;
      place = f.place;
    }

-- What is filed are these folders, each of which has a class and a client.
pub record Kept (f : Filed) (filing : Filing) : Type 0 where
  pub even : length f.clients ≡ length f.classes
  pub kept : filing ≡ filing_of f
