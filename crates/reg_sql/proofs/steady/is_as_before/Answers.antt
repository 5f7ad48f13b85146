use Rattle.std.proofs.Common.{◌≡◌, List, ℕ, [], ◌∷◌, ◌++◌, ap, append_assoc, subst, ◌∙◌}
use Rattle.std.specs.Bool.{Decides}
use Rattle.sqlite_disk.specs.Memory.{memory_bytes}
use Rattle.reg_sql.specs.Steady.{File, Header, CopyReading}
use Rattle.reg_sql.proofs.steady.is_as_before.Goals as goal

pub returns-clause-told : goal.returns-clause-told
returns-clause-told g c = λ tells.
    let file = memory_bytes c.in_ok-later_file.later_file in
    let header = memory_bytes c.in_ok-later_header.later_header in
    let old = g.O.Original.readings c.args.original.now in
    record {
      later_file = file;
      later_header = header;
      read =
          c.in_ok-later_header.ensures.read tells
          ∙ ap (λ (l : List CopyReading). l ++ Header header ∷ []) (c.in_ok-later_file.ensures.read tells)
          ∙ append_assoc old (File file ∷ []) (Header header ∷ []);
      told =
          subst (λ (h : List ℕ). Decides c.is_steady.result ((h ≡ c.args.header.now) × (file ≡ c.args.file.now)))
          c.bytes.ensures
          (subst (λ (f : List ℕ). Decides c.is_steady.result
          ((c.bytes.result.now ≡ c.args.header.now) × (f ≡ c.args.file.now))) c.bytes-2.ensures
          c.is_steady.ensures);
    }
