use Rattle.std.proofs.Common.{◌∙◌, Bor, List, ℕ, [], Some, inl}
use Rattle.csv.specs.Reading.{default_config, strip_bom}
use Rattle.csv.specs.Records.{fields_of}
use Rattle.csv.specs.declared.parser.State.TheVariants as st
use Rattle.csv.proofs.ReadFacts.{rows-end, rows-more}
use Rattle.reg_ranges.proofs.ReachedRows.{all_rows}
use Rattle.reg_pages.proofs.reading.next_row.Goals as goal

pub returns-in-None-clause-row : goal.returns-in-None-clause-row
returns-in-None-clause-row c text done read =
    let step = rw c.in-None.is at ((c.next.ensures.steps read.left read.trim).0 read.ready) in
    all_rows text done _ read.rest read.reached
    (rows-end (λ (s : Bor (List ℕ)). Some s.now) c.args.rows.now.rdr c.next.new.self.rdr []
    default_config read.rest read.config read.source step)

pub returns-in-Some-Ok-clause-row : goal.returns-in-Some-Ok-clause-row
returns-in-Some-Ok-clause-row c text done read =
    let step =
    rw (c.in-Some-Ok.is, c.in-Some-Ok.field-0-is) at
    ((c.next.ensures.steps read.left read.trim).0 read.ready) in
    let more =
    rows-more (λ (s : Bor (List ℕ)). Some s.now) c.args.rows.now.rdr c.next.new.self.rdr
    (fields_of c.in-Some-Ok.row) default_config st.StartRecord (strip_bom text) read.rest
    done
    read.config read.source read.reached step.0 in
    record {
      trim = step.0.3 ∙ read.trim;
      ready = inl step.1;
      left = step.2;
      config = step.0.2 ∙ read.config;
      rest = more.0;
      source = more.1;
      reached = more.2;
    }
