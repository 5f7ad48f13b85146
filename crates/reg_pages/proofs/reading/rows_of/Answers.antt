use Rattle.std.proofs.Common.{◌∙◌, sym, refl, inr}
use Rattle.csv.specs.Reading.{Reached, strip_bom}
use Rattle.reg_pages.proofs.reading.rows_of.Goals as goal

pub returns : goal.returns
unfolding Reached
returns c =
    let reader = c.from_reader.ensures in
    let set = c.has_headers.ensures in
    rw c.into_byte_records.ensures.rdr (record {
      trim = rw (c.flexible.ensures, set) at reader.trim ∙ c.new.ensures.trim;
      ready = inr (inr (rw (c.flexible.ensures, set) at reader.has_headers, reader.headers));
      left = c.into_byte_records.ensures.left;
      config = rw (c.flexible.ensures, set) at reader.config ∙ c.new.ensures.config;
      rest = strip_bom c.args.file.now;
      source = reader.source;
      reached = (sym reader.state, refl);
    })
