use Rattle.std.proofs.Common.{◌≡◌, ◌+◌, ◌++◌, IsTrue, length, ap, ◌∙◌, sym, rules}
use Rattle.reg_source.proofs.Copying.{gathered_rest, same_more}
use Rattle.reg_source.proofs.Feeding.{taken_more}
use Rattle.reg_source.proofs.replacement.compared.Goals as goal

pub loop-reader-preserved : goal.loop-reader-preserved
loop-reader-preserved g c =
    let remaining = g.R.Read.remaining in
    let rest = g.P.Portions.rest in
    let piece = c.deref.result.now in
    let is : IsTrue c.goes_on.result = search rules in
    let next : rest c.loop-reader.bytes ≡ c.gather_hashed.new.gathered.items ++ rest c.gather_hashed.new.bytes =
    search (rules, gathered_rest) in
    let split : rest c.loop-reader.bytes ≡ piece ++ rest c.gather_hashed.new.bytes =
    next ∙ ap (λ items. items ++ rest c.gather_hashed.new.bytes) (sym c.deref.ensures.value) in
    let sum : c.in-Some.more ≡ c.loop-reader.same + length piece = search rules in
    let same = same_more (remaining c.args.reader.now) (remaining c.loop-reader.reader)
    (remaining c.goes_on.new.reader) (rest c.args.bytes.now) (rest c.loop-reader.bytes)
    (rest c.gather_hashed.new.bytes) piece c.loop-reader.same c.in-Some.more c.loop-reader.invariant.so_far
    (c.goes_on.ensures is) split sum in
    record {
      so_far = same;
      fed = taken_more c.args.hasher.now c.loop-reader.hasher c.gather_hashed.new.hasher
          (rest c.args.bytes.now) (rest c.loop-reader.bytes) (rest c.gather_hashed.new.bytes)
          c.loop-reader.invariant.fed c.in_ok-gather_hashed.ensures.fed;
    }

pub returns-then-not-goes_on-clause-fed : goal.returns-then-not-goes_on-clause-fed
returns-then-not-goes_on-clause-fed g c =
    let rest = g.P.Portions.rest in
    taken_more c.args.hasher.now c.loop-reader.hasher c.gather_hashed.new.hasher
    (rest c.args.bytes.now) (rest c.loop-reader.bytes) (rest c.gather_hashed.new.bytes)
    c.loop-reader.invariant.fed c.in_ok-gather_hashed.ensures.fed
