use Rattle.std.proofs.Common.{inr}
use Rattle.reg_files.proofs.Copied.{left_open, told_put}
use Rattle.reg_files.proofs.copies.put_into.Goals as goal

pub returns-clause-copied : goal.returns-clause-copied
returns-clause-copied g c =
    told_put c.put_look.result _ _ _ _ _ _
    (λ version requests is put. record {
      told = record {
        seen = c.requires;
        of_version = is.0;
        counted = record c.args.snapshot.now { look = c.put_look.new.look };
        has_requests = is.1;
      };
      names = _;
      first = _;
      last = _;
      opened = c.in_ok-target.ensures;
      steps = put;
    })
    c.put_look.ensures.printed (rw c.as_slice.ensures.value at c.put_look.ensures.put)

pub returns-clause-failed : goal.returns-clause-failed
returns-clause-failed g c =
    left_open c.put_look.result _ _ _
    (λ why left. inr record {
      names = _;
      first = _;
      last = _;
      opened = c.in_ok-target.ensures;
      steps = left;
    })
    (rw c.as_slice.ensures.value at c.put_look.ensures.failed)
