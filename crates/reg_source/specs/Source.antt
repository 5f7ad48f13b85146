-- What a source is asked.
use Rattle.std.specs.Prelude.{◌≡◌}
use Rattle.reg_core.specs.View.{Published}

-- A question to a source. Under its premise after it, this was told; what is published stays.
pub record Asks {S : Type 0} (published : S → Published) (Holds : S → Type 0) (source source' : S)
    (Told : Published → Type 0) : Type 0 where
  pub told : Holds source' → Told (published source)
  pub same : Holds source' → published source' ≡ published source
  pub before : Holds source' → Holds source
