-- Requests as an expert sees them to whom they are assigned, and what the experts of one say.
use Rattle.std.specs.Prelude.{ℕ, List, Option, option_map}
use Rattle.std.specs.FinMap.{get}
use Rattle.reg_core.specs.File.{file}
use Rattle.reg_core.specs.View.{Queued, as_queued}
use Rattle.reg_core.specs.Queue.{queue_row}
use Rattle.reg_core.specs.Request.{case_of}
use Rattle.reg_core.specs.World.{RequestName, World}
use Rattle.reg_core.specs.declared.advice.Opinion.{Opinion}
use Rattle.reg_core.specs.declared.case_file.CaseFile.{CaseFile}
use Rattle.reg_core.specs.declared.queue.QueueRow.{QueueRow}
use Rattle.reg_core.specs.declared.request.Request.{Request}
use Rattle.reg_records.specs.declared.advised.AdvisedSeat.{AdvisedSeat}
use Rattle.reg_records.specs.declared.queued.QueuedRequest.{QueuedRequest}

-- a request as an expert sees it to whom it is assigned, if there is one of the name
abbrev pub assigned_to : List ℕ → World → RequestName → Option Queued
assigned_to expert w name =
    option_map (as_queued (get w.advice (name, expert))) (get w.requests name)

-- what the expert of a seat says, if anything
abbrev pub opinion_at : AdvisedSeat → Option Opinion
opinion_at row = option_map (λ a. record { expert = row.seat.expert; advice = a }) row.advice

-- a row of the joined query as its expert sees it
abbrev pub seen_row : QueuedRequest → QueueRow
seen_row row =
    queue_row (row.request.account, row.request.reference)
    (as_queued row.advice (case_of row.request))

-- a request with its experts and all advice on it
abbrev pub filed : World → Request → CaseFile
filed w request = file w (request.account, request.reference) (case_of request)
