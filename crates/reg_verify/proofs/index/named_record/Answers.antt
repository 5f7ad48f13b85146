use Rattle.std.proofs.Common.{◌≡◌, Option, sym, subst, option_map}
use Rattle.std.specs.Prelude.{IfOk}
use Rattle.serde_json.specs.View.{view}
use Rattle.reg_verify.specs.Index.{NamedRecord, record_of}
use Rattle.reg_verify.proofs.Named.{named_record-none, named_record-value}
use Rattle.reg_verify.proofs.index.named_record.Goals as goal

pub returns-in-Ok : goal.returns-in-Ok
returns-in-Ok c =
    subst
    (λ (o : Option NamedRecord).
    IfOk c.named_in.result (λ named. option_map record_of named ≡ o))
    (sym (named_record-value c.args.index.now (view c.in-Ok.value) c.in-Ok.ensures.ok.0 c.in-Ok.ensures.ok.1))
    c.named_in.ensures

pub returns-else-is_memory : goal.returns-else-is_memory
returns-else-is_memory c =
    sym
    (named_record-none c.args.index.now
    (λ u. c.in-Err.ensures.err (λ m. let t = c.is_memory.ensures.1 m in cc) u))
