use Rattle.reg_records.proofs.ActLaws.{acts_kept}
use Rattle.reg_records.proofs.AdviceLaws.{advice_kept}
use Rattle.reg_records.proofs.EntryLaws.{entries_kept, entry_unheld}
use Rattle.reg_records.proofs.GrantLaws.{grants_kept}
use Rattle.reg_records.proofs.HoldLaws.{holds_kept}
use Rattle.reg_records.proofs.HoldingLaws.{holdings_kept}
use Rattle.reg_records.proofs.LinkLaws.{links_kept}
use Rattle.reg_records.proofs.MinuteLaws.{minutes_kept}
use Rattle.reg_records.proofs.PrefixLaws.{prefixes_kept}
use Rattle.reg_records.proofs.RangeLaws.{ranges_kept}
use Rattle.reg_records.proofs.RegistryLaws.{registries_kept}
use Rattle.reg_records.proofs.SeatLaws.{seats_kept}
use Rattle.reg_records.proofs.VersionLaws.{versions_kept}
use Rattle.reg_records.proofs.laws.rows_read_back.Goals as goal

pub returns : goal.returns
returns c = record {
  office = versions_kept;
  caps = grants_kept;
  registries = registries_kept;
  ranges = ranges_kept;
  entries = entries_kept;
  unheld = entry_unheld;
  queue = seats_kept;
  advice = advice_kept;
  pool = prefixes_kept;
  blocks = holdings_kept;
  holds = holds_kept;
  minutes = minutes_kept;
  agents = links_kept;
  journal = acts_kept;
}
