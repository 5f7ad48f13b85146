-- Why a call is given up, by the calls that it is made of.
use Rattle.std.proofs.Common.{◌≡◌, ◌⊎◌, inl, inr, ℕ, List, [], ap, refl, subst, ◌∙◌}
use Rattle.sqlite.specs.Held.{Held, state}
use Rattle.sqlite.specs.Order.{Row}
use Rattle.sqlite.specs.State.{State, Shown}
use Rattle.sqlite.specs.declared.error.Error.{Error}
use Rattle.sqlite_trees.specs.declared.store.Store.{Ghosts}
use Rattle.sqlite.specs.Effect.{Database}
use Rattle.reg_keeper.specs.declared.keeper.Fault.{Fault}
use Rattle.reg_keeper.specs.declared.keeper.Fault.TheVariants.{Memory, Store}
use Rattle.reg_tables.specs.Connection.{Stays, Works}
use Rattle.reg_statements.specs.Reading.{IsFault, IsMet, IsMisread, fault_of}
use Rattle.reg_statements.specs.Reading as reading
use Rattle.reg_opening.specs.Causes.{GaveTooMany, HasCause, Misorders, ShowsMisordered, TellsError}

-- why, of what the tables hold
abbrev Why : {S : Type 0} → (Error → Type 0) → Type 0 → Misorders → Ghosts S → State → Database → Fault
    → Type 0
Why Reported Refused Misordered g new db fault =
    TellsError Reported fault ⊎ ((fault ≡ Memory) × Refused)
    ⊎ ((fault ≡ Store) × (Works new → ShowsMisordered g Misordered db ⊎ GaveTooMany g db))

module _ {S : Type 0} {g : Ghosts S} {Reported : Error → Type 0} {Refused : Type 0} where
  -- of a call that comes after another
  pub cause_later : {Misordered : Misorders} (old mid new : State) (fault : Fault) → Stays old mid
      → Stays mid new → HasCause Reported Refused Misordered g mid new fault
      → HasCause Reported Refused Misordered g old new fault
  cause_later {Misordered} old mid new fault first second cause = record { why = by cause.why }
    where
      by : Why Reported Refused Misordered g new mid.now fault → Why Reported Refused Misordered g new old.now fault
      by (inl told) = inl told
      by (inr (inl memory)) = inr (inl memory)
      by (inr (inr store)) = inr (inr (
        store.0,
        λ works.
            subst (λ db. ShowsMisordered g Misordered db ⊎ GaveTooMany g db)
            (first.unchanged (second.worked works)) (store.1 works),
      ))

  -- where more is asked of what queries show
  pub cause_wider : {Narrow Wide : Misorders} (old new : State) (fault : Fault)
      → ((sql : List ℕ) (rows : List Row) → Narrow sql rows → Wide sql rows)
      → HasCause Reported Refused Narrow g old new fault
      → HasCause Reported Refused Wide g old new fault
  cause_wider {Narrow} {Wide} old new fault more cause = record { why = by cause.why }
    where
      widened : ShowsMisordered g Narrow old.now ⊎ GaveTooMany g old.now
          → ShowsMisordered g Wide old.now ⊎ GaveTooMany g old.now
      widened (inl shows) = inl (record {
        sql = shows.sql;
        rows = shows.rows;
        from = shows.from;
        upto = shows.upto;
        seen = shows.seen;
        shown = shows.shown;
        misordered = more shows.sql shows.rows shows.misordered;
      })
      widened (inr many) = inr many

      by : Why Reported Refused Narrow g new old.now fault → Why Reported Refused Wide g new old.now fault
      by (inl told) = inl told
      by (inr (inl memory)) = inr (inl memory)
      by (inr (inr store)) = inr (inr (store.0, λ works. widened (store.1 works)))

  -- of a query
  pub query_cause : {Misordered : Misorders} {Was : Type 0} (sql : List ℕ) (old : State)
      (conn : Held S) (fault : Fault) → Stays old (state g conn) → (Was → Refused)
      → IsFault (IsMet Reported Was (reading.GivesTooMany g sql [] conn)) old (state g conn) fault
      → HasCause Reported Refused Misordered g old (state g conn) fault
  query_cause {Misordered} {Was} sql old conn fault stays refused is =
      record { why = by is.error is.told is.met }
    where
      gave : Works (state g conn) → reading.GivesTooMany g sql [] conn → GaveTooMany g old.now
      gave works gives = record {
        sql = sql;
        rows = (gives works.clean).0;
        conn = conn;
        seen = stays.unchanged works;
        given = (gives works.clean).1;
        count = (gives works.clean).2;
      }

      by : (error : Error) → fault ≡ fault_of error
          → IsMet Reported Was (reading.GivesTooMany g sql [] conn) error
          → Why Reported Refused Misordered g (state g conn) old.now fault
      by error told (inl reported) = inl (error, told, reported)
      by error told (inr (inl memory)) = inr (inl (told ∙ ap fault_of memory.0, refused memory.1))
      by error told (inr (inr many)) =
          inr (inr (told ∙ ap fault_of many.0, λ works. inr (gave works many.1)))

  -- of rows that are not in their order
  pub misread_cause : {Misordered : Misorders} {Reads : List Row → Type 0} (sql : List ℕ)
      (old new : Held S) (fault : Fault)
      → IsMisread sql [] (state g old) (state g new) Reads fault
      → ((rows : List Row) → ¬ Reads rows → Misordered sql rows)
      → HasCause Reported Refused Misordered g (state g old) (state g new) fault
  misread_cause {Misordered} {Reads} sql old new fault misread is =
      record { why = inr (inr (misread.told, λ works. inl (shows (misread.rows works)))) }
    where
      shows : (rows : List Row) × Shown sql [] (state g old) (state g new) rows × ¬ Reads rows
          → ShowsMisordered g Misordered (state g old).now
      shows read = record {
        sql = sql;
        rows = read.0;
        from = old;
        upto = new;
        seen = refl;
        shown = read.1;
        misordered = is read.0 read.2;
      }

  -- of a query whose rows are not read, or not in their order
  pub ordered_cause : {Misordered : Misorders} {Was : Type 0} {Reads : List Row → Type 0}
      (sql : List ℕ) (old conn : Held S) (fault : Fault) → Stays (state g old) (state g conn)
      → (Was → Refused) → ((rows : List Row) → ¬ Reads rows → Misordered sql rows)
      → IsFault (IsMet Reported Was (reading.GivesTooMany g sql [] conn)) (state g old) (state g conn)
      fault ⊎ IsMisread sql [] (state g old) (state g conn) Reads fault
      → HasCause Reported Refused Misordered g (state g old) (state g conn) fault
  ordered_cause sql old conn fault stays refused is (inl failed) =
      query_cause sql (state g old) conn fault stays refused failed
  ordered_cause sql old conn fault stays refused is (inr misread) =
      misread_cause sql old conn fault misread is
