use Rattle.std.proofs.Common.{◌≡◌, refl}
use Rattle.std.specs.Prelude.{option_map, string_bytes, OnOk}
use Rattle.reg_program.specs.Copying.{PrintsCopied}
use Rattle.reg_program.specs.Importing.{IsImported}
use Rattle.reg_program.specs.Journal.{TellsActs}
use Rattle.reg_program.specs.Tasks.{streams}
use Rattle.reg_program.specs.Verifying.{IsVerifiedBy}
use Rattle.reg_program.proofs.Carried.{touches_none}
use Rattle.reg_program.proofs.performing.attempt.Goals as goal

pub returns-in-Publish : goal.returns-in-Publish
returns-in-Publish g c = rw c.in-Publish.is c.publish_at.ensures

pub returns-in-Import : goal.returns-in-Import
returns-in-Import g c =
    let console = c.args.console.now in
    let unread = g.R.Read.remaining console.input.now in
    let io = streams unread unread (g.W.Write.contents console.output.now)
    (g.W.Write.contents c.import.new.output) (g.D.Dates.readings c.args.dates.now)
    (g.D.Dates.readings c.moment_now.new.dates) in
    rw c.in-Import.is
    (touches_none (c.args.offices.now ≡ c.args.offices.now) (IsImported c.in-Import.order io) c.import.result refl
    (c.moment_now.result, c.moment_now.ensures, c.import.ensures))

pub returns-in-Copy : goal.returns-in-Copy
returns-in-Copy g c =
    let Copied = g.C.Copies.Copied c.args.copies.now (string_bytes c.in-Copy.file) (string_bytes c.in-Copy.folder) in
    let had = g.W.Write.contents c.args.console.now.output.now in
    let has = g.W.Write.contents c.copy.new.output in
    rw c.in-Copy.is
    (touches_none (c.args.offices.now ≡ c.args.offices.now) (λ done. OnOk done (PrintsCopied Copied had has)) c.copy.result refl
    (rw (c.deref-in-Copy.ensures, c.deref-in-Copy-2.ensures) at c.copy.ensures))

pub returns-in-Journal : goal.returns-in-Journal
returns-in-Journal g c =
    let Recorded = g.C.Copies.Recorded c.args.copies.now (string_bytes c.in-Journal.file) in
    let noted = option_map string_bytes c.in-Journal.digest in
    let had = g.W.Write.contents c.args.console.now.output.now in
    let has = g.W.Write.contents c.tell_acts.new.output in
    rw c.in-Journal.is
    (touches_none (c.args.offices.now ≡ c.args.offices.now) (TellsActs Recorded noted had has) c.tell_acts.result refl
    (rw c.deref-in-Journal.ensures at c.tell_acts.ensures))

pub returns-in-Due : goal.returns-in-Due
returns-in-Due g c = rw c.in-Due.is (rw c.deref-in-Due.ensures at c.due_at.ensures)

pub returns-in-Verify : goal.returns-in-Verify
returns-in-Verify g c =
    let had = g.W.Write.contents c.args.console.now.output.now in
    let has = g.W.Write.contents c.verify.new.output in
    rw c.in-Verify.is
    (touches_none (c.args.offices.now ≡ c.args.offices.now) (IsVerifiedBy (option_map string_bytes c.in-Verify.digest) had has)
    c.verify.result refl c.verify.ensures)

pub returns-in-Request : goal.returns-in-Request
returns-in-Request g c = rw c.in-Request.is c.ask.ensures

pub returns-in-Define : goal.returns-in-Define
returns-in-Define g c = rw c.in-Define.is c.ask-in-Define.ensures

pub returns-in-Listing : goal.returns-in-Listing
returns-in-Listing g c = rw c.in-Listing.is (rw c.as_str.ensures.value at c.ask-in-Listing.ensures)

pub returns-in-Tokens : goal.returns-in-Tokens
returns-in-Tokens g c = rw c.in-Tokens.is (rw c.deref-in-Tokens.ensures at c.list_tokens.ensures)

pub returns-in-Revoke : goal.returns-in-Revoke
returns-in-Revoke g c = rw c.in-Revoke.is (rw c.deref-in-Revoke.ensures at c.revoke.ensures)
