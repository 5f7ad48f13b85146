use Rattle.reg_client.proofs.asking.push_told.Goals as goal

pub returns : goal.returns
returns c = record {
  page = c.in_ok-page_in.field-0.now;
  told_page = c.in_ok-page_in.ensures;
  appended = c.in_ok-push_due.ensures;
}
