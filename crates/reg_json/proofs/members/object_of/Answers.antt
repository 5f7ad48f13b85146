use Rattle.std.proofs.Common.{sym, ◌∙◌}
use Rattle.serde_json.specs.View.{view}
use Rattle.reg_json.proofs.Objects.{object_of-object, object_of-other, object_of-nothing}
use Rattle.reg_json.proofs.members.object_of.Goals as goal

pub returns-then-is_object : goal.returns-then-is_object
returns-then-is_object c =
    object_of-object _ _ c.in-Ok.ensures.ok.0 c.in-Ok.ensures.ok.1
    (sym c.is_object.ensures ∙ c.if-is_object.true)

pub returns-else-is_object : goal.returns-else-is_object
returns-else-is_object c =
    object_of-other _ (view c.in-Ok.value) c.in-Ok.ensures.ok.0 c.in-Ok.ensures.ok.1
    (sym c.is_object.ensures ∙ c.if-is_object.false)

pub returns-else-is_memory : goal.returns-else-is_memory
returns-else-is_memory c =
    object_of-nothing _ (λ u. c.in-Err.ensures.err (λ m. let t = c.is_memory.ensures.1 m in cc) u)
