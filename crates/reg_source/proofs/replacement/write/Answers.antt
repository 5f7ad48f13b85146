use Rattle.std.proofs.Common.{◌≡◌, ◌++◌, ◌∙◌, sym, ap, append_assoc, rules}
use Rattle.reg_source.proofs.Copying.{gathered_rest}
use Rattle.reg_source.proofs.Feeding.{taken_more}
use Rattle.reg_source.proofs.replacement.write.Goals as goal

pub loop-draft-preserved : goal.loop-draft-preserved
loop-draft-preserved g c =
    let rest = g.P.Portions.rest in
    let written = g.D.Disk.written in
    let items = c.gather_hashed.new.gathered.items in
    let left = rest c.gather_hashed.new.bytes in
    let next : rest c.loop-draft.bytes ≡ items ++ left = search (rules, gathered_rest) in
    record {
      named = search rules;
      whole = λ tells.
          let added : written c.add-in-loop-draft.new.draft ≡ written c.loop-draft.draft ++ items = search rules in
          ap (λ l. l ++ left) added ∙ append_assoc (written c.loop-draft.draft) items left
          ∙ ap (λ l. written c.loop-draft.draft ++ l) (sym next) ∙ c.loop-draft.invariant.whole tells;
      begun = search rules;
      fed = taken_more c.args.hasher.now c.loop-draft.hasher c.gather_hashed.new.hasher
          (rest c.args.bytes.now) (rest c.loop-draft.bytes) left c.loop-draft.invariant.fed
          c.in_ok-gather_hashed.ensures.fed;
    }
