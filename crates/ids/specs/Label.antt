-- A folder's label: its class and its client (document 01, 'The register').
use Rattle.std.specs.Prelude.{ℕ}
use Rattle.ids.specs.declared.Label.{Label}

abbrev pub label_of : ℕ → ℕ → Label
label_of class client =
    record {
      class = record { 0 = class };
      client = record { 0 = client };
    }
