-- Internal: the folders whose labels are searched. No rule of document 01 stands here.
use Rattle.register.specs.Register.{Register, register_of}
use Rattle.register_search.specs.declared.folders.Folders.{Folders}

-- The register of their labels alone.
abbrev pub register_in : Folders → Register
register_in folders = register_of 0 folders.labels.classes.now folders.labels.clients.now
