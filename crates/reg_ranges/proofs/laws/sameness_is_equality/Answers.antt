use Rattle.reg_ranges.proofs.SamenessDecides.{policy_decided, treatment_decided, stream_decided, track_decided, rfc_decided, evidence_decided, range_decided, table_decided}
use Rattle.reg_ranges.proofs.laws.sameness_is_equality.Goals as goal

pub returns : goal.returns
returns c = record {
  policies = policy_decided;
  treatments = treatment_decided;
  streams = stream_decided;
  tracks = track_decided;
  rfcs = rfc_decided;
  evidence = evidence_decided;
  ranges = range_decided;
  tables = table_decided;
}
