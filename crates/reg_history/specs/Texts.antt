-- The texts of a record, as the code has them.
use Rattle.std.specs.Prelude.{ℕ, List, [], ◌∷◌}
use Rattle.reg_changes.specs.declared.change.Class.{Class}
use Rattle.reg_changes.specs.declared.change.Fact.{Fact}
use Rattle.reg_changes.specs.declared.change.PublishedStanding.{PublishedStanding}
use Rattle.reg_history.specs.declared.texts.Texts.{Texts}

-- without where they lie in memory
abbrev pub texts_of : Texts → List (List ℕ)
texts_of t =
    t.number.now ∷ t.moment.now ∷ t.registry.now ∷ t.change.now ∷ t.value.now ∷ t.description.now
    ∷ t.policy.now ∷ t.first.now ∷ t.expires.now ∷ t.held.now ∷ t.assignee.now ∷ []

-- how long an entry stands
abbrev pub standing_of : Texts → PublishedStanding
standing_of t = record { expires = t.expires.now; held = t.held.now }

-- the fact about a subject of this class
abbrev pub fact_of : Class → Texts → Fact
fact_of class t = record {
  subject = record { registry = t.registry.now; class = class; value = t.value.now };
  details = record {
    description = t.description.now;
    policy = t.policy.now;
    first = t.first.now;
    standing = standing_of t;
    assignee = t.assignee.now;
  };
}
