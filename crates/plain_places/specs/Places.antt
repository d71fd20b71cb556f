-- The places of the plain set's calls: what each may remember (refusal 11), opened from a lent record and closed into one.
use Rattle.std.specs.Prelude.{ℕ, Bool, true, false, cond, not, ltb, eqb, Option, Some, None, Result, Ok, Err}
use Rattle.unique_index_set_enums.specs.declared.ReleaseMode.{ReleaseMode}
use Rattle.unique_index_set_enums.specs.declared.UnknownMode.{UnknownMode}
use Rattle.unique_index_set_enums.specs.Kinds.{index}
use Rattle.unique_index_set_enums.specs.Limits.{lock_acquire}
use Rattle.unique_index_set_enums.specs.Numbers.{mode_number, mode_read}
use Rattle.head_details.specs.Word.{head_of, borrowed_of}
use Rattle.thread_records.specs.declared.Remembered.{Remembered}
use Rattle.thread_records.specs.Records.{plain_call}
use Rattle.plain_places.specs.declared.Place.{Place}
use Rattle.plain_places.specs.declared.Place.TheVariants.{AcquireLook, AcquireRead, AcquireExchange, AcquireWrite, ReleaseLook, ReleaseWrite, ReleaseExchange, BorrowedLook, LockedLook}

-- a remembered head below the capacity, the remembered borrowed count not locked (0 may be)
unfoldable pub may_acquire : ℕ → ℕ → Bool
may_acquire capacity w = cond (ltb (head_of w) capacity) (not (eqb (borrowed_of w) lock_acquire)) false

-- the remembered borrowed count neither 0 nor locked; the head may be any
unfoldable pub may_release : ℕ → Bool
may_release w = cond (eqb (borrowed_of w) 0) false (not (eqb (borrowed_of w) lock_acquire))

-- what each place may remember; the value read may be any, the mode is known by its type
abbrev pub sound : ℕ → Place → Bool
sound capacity AcquireLook = true
sound capacity (AcquireRead seen) = may_acquire capacity seen
sound capacity (AcquireExchange seen value) = may_acquire capacity seen
sound capacity (AcquireWrite i) = ltb i.0 capacity
sound capacity (ReleaseLook i m) = ltb i.0 capacity
sound capacity (ReleaseWrite i m seen) = cond (ltb i.0 capacity) (may_release seen) false
sound capacity (ReleaseExchange i m seen) = cond (ltb i.0 capacity) (may_release seen) false
sound capacity BorrowedLook = true
sound capacity LockedLook = true

-- the plain set's places are 1 to 9: any other number, and a release with an unknown mode, name no place
abbrev pub release_read_as : Result ReleaseMode UnknownMode → Remembered → Option Place
release_read_as (Err e) c = None
release_read_as (Ok m) c =
    cond (eqb c.place 5) (Some (ReleaseLook c.index m))
    (cond (eqb c.place 6) (Some (ReleaseWrite c.index m c.seen))
    (cond (eqb c.place 7) (Some (ReleaseExchange c.index m c.seen)) None))

unfoldable pub release_read : Remembered → Option Place
release_read c = release_read_as (mode_read c.mode) c

unfoldable pub place_read : Remembered → Option Place
place_read c =
    cond (eqb c.place 1) (Some AcquireLook)
    (cond (eqb c.place 2) (Some (AcquireRead c.seen))
    (cond (eqb c.place 3) (Some (AcquireExchange c.seen c.value))
    (cond (eqb c.place 4) (Some (AcquireWrite c.index))
    (cond (eqb c.place 8) (Some BorrowedLook)
    (cond (eqb c.place 9) (Some LockedLook) (release_read c))))))

-- opened: the number read as a place, and what it remembers judged
abbrev pub opened_from : ℕ → Option Place → Option Place
opened_from capacity None = None
opened_from capacity (Some p) = cond (sound capacity p) (Some p) None

unfoldable pub opened_at : ℕ → Remembered → Option Place
opened_at capacity c = opened_from capacity (place_read c)

-- closed: what the place remembers, and 0 for all else
abbrev pub closed_at : Place → Remembered
closed_at AcquireLook = plain_call 1 0 (index 0) 0 0
closed_at (AcquireRead seen) = plain_call 2 0 (index 0) seen 0
closed_at (AcquireExchange seen value) = plain_call 3 0 (index 0) seen value
closed_at (AcquireWrite i) = plain_call 4 0 i 0 0
closed_at (ReleaseLook i m) = plain_call 5 (mode_number m) i 0 0
closed_at (ReleaseWrite i m seen) = plain_call 6 (mode_number m) i seen 0
closed_at (ReleaseExchange i m seen) = plain_call 7 (mode_number m) i seen 0
closed_at BorrowedLook = plain_call 8 0 (index 0) 0 0
closed_at LockedLook = plain_call 9 0 (index 0) 0 0
