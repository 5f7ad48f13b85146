-- What becomes of the premise in two steps.
use Rattle.std.proofs.Common.{◌≡◌, sym, subst}
use Rattle.reg_keeper.specs.Keeper.{GoesOn}

-- in one step and then another
pub goes_on_then : {S : Type 0} {Holds Sound : S → Type 0} {old mid new : S} {Unfailed : Type 0}
    → GoesOn Holds Sound old mid (Unit {0}) → GoesOn Holds Sound mid new Unfailed
    → GoesOn Holds Sound old new Unfailed
goes_on_then first then = record {
  before = λ h. first.before (then.before h);
  sound = λ s. first.sound (then.sound s);
  after = λ s unfailed h. then.after s unfailed (first.after (then.sound s) tt h);
}

-- in one step and then another, each of which may have failed
pub goes_on_both : {S : Type 0} {Holds Sound : S → Type 0} {old mid new : S} {U V : Type 0}
    → GoesOn Holds Sound old mid U → GoesOn Holds Sound mid new V
    → GoesOn Holds Sound old new (U × V)
goes_on_both first then = record {
  before = λ h. first.before (then.before h);
  sound = λ s. first.sound (then.sound s);
  after = λ s unfailed h. then.after s unfailed.1 (first.after (then.sound s) unfailed.0 h);
}

-- in no step
pub goes_on_there : {S : Type 0} {Holds Sound : S → Type 0} {old new : S} {Unfailed : Type 0}
    → new ≡ old → GoesOn Holds Sound old new Unfailed
goes_on_there {Holds = Holds} {Sound = Sound} {old = old} {Unfailed = Unfailed} same =
    subst (λ s. GoesOn Holds Sound old s Unfailed) (sym same)
    (record { before = λ h. h; sound = λ s. s; after = λ s unfailed h. h })

-- where nothing can have failed
pub goes_on_anyway : {S : Type 0} {Holds Sound : S → Type 0} {old new : S} {Unfailed : Type 0}
    → GoesOn Holds Sound old new (Unit {0}) → GoesOn Holds Sound old new Unfailed
goes_on_anyway goes = record {
  before = goes.before;
  sound = goes.sound;
  after = λ s unfailed h. goes.after s tt h;
}
