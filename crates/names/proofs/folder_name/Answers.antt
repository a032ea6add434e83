-- `folder_name` meets its contract: the text that the name was found in, cut where it lies.
use mathlib.Core.Path.{◌∙◌}
use Rattle.names.specs.Name.{no_stretch, stretch_of}
use Rattle.names.specs.Part.{part_of}
use Rattle.names.proofs.Names.{cut-none, cut-name_shown, stretch-fits}
use Rattle.names.proofs.folder_name.Goals as goal

pub part-requires : goal.part-requires
part-requires c =
    stretch-fits _ _ _ {s = stretch_of 0 c.in-Some-Client.span} (rw (c.in-Some-Client.is, c.in-Some-Client.field-0-is) at c.find.ensures)

pub part-requires-in-Some-House : goal.part-requires-in-Some-House
part-requires-in-Some-House c =
    stretch-fits _ _ _ {s = stretch_of 1 c.in-Some-House.span} (rw (c.in-Some-House.is, c.in-Some-House.field-0-is) at c.find.ensures)

pub returns-in-Some-Client : goal.returns-in-Some-Client
returns-in-Some-Client c =
    c.part.ensures ∙ cut-name_shown _ _ _ {s = stretch_of 0 c.in-Some-Client.span} (rw (c.in-Some-Client.is, c.in-Some-Client.field-0-is) at c.find.ensures)

pub returns-in-Some-House : goal.returns-in-Some-House
returns-in-Some-House c =
    c.part-in-Some-House.ensures ∙ cut-name_shown _ _ _ {s = stretch_of 1 c.in-Some-House.span} (rw (c.in-Some-House.is, c.in-Some-House.field-0-is) at c.find.ensures)

pub returns-in-None : goal.returns-in-None
returns-in-None c =
    cut-none (part_of c.args.client) ∙ cut-name_shown _ _ _ {s = no_stretch} (rw c.in-None.is at c.find.ensures)
