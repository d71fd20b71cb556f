-- The places of the robust set's calls: what each may remember (refusal 11), opened from a lent record and closed into one.
use Rattle.std.specs.Prelude.{ℕ, ◌+◌, ◌-◌, ◌%◌, ◌^◌, Bool, true, false, cond, ◌==◌, nat_lt, Option, Some, None, option_map}
use Rattle.unique_index_set_enums.specs.Kinds.{index, owner, generation}
use Rattle.thread_records.specs.declared.OwnerList.{OwnerList}
use Rattle.thread_records.specs.declared.Remembered.{Remembered}
use Rattle.thread_records.specs.Records.{no_counting, robust_call}
use Rattle.thread_records.specs.Lists.{good_list}
use Rattle.robust_moves.specs.declared.count.CountPlace.{CountPlace}
use Rattle.robust_moves.specs.Count.{count_sound, count_read, count_closed}
use Rattle.robust_acquire.specs.Acquire.{acquire_sound, acquire_read, acquire_closed}
use Rattle.robust_release.specs.Release.{release_sound, release_read, release_closed}
use Rattle.robust_find.specs.Find.{find_sound, find_read, find_closed}
use Rattle.robust_recover.specs.declared.RecoverPlace.{RecoverPlace}
use Rattle.robust_recover.specs.Recover.{recover_sound, reads_list, recover_read, recover_closed}
use Rattle.robust_places.specs.declared.Place.{Place}
use Rattle.robust_places.specs.declared.Place.TheVariants.{Acquire, Release, Borrowed, LockedLook, Find, Recover}

-- the list is judged just while the call can still read it
unfoldable pub list_sound : ℕ → RecoverPlace → OwnerList → Bool
list_sound capacity p list = cond (reads_list capacity p) (good_list list) true

-- what each place may remember, with the list beside it
abbrev pub sound : ℕ → Place → OwnerList → Bool
sound capacity (Acquire p) list = acquire_sound capacity p
sound capacity (Release p) list = release_sound capacity p
sound capacity (Borrowed p) list = count_sound capacity p
sound capacity LockedLook list = true
sound capacity (Find p) list = find_sound capacity p
sound capacity (Recover p) list = cond (recover_sound capacity p) (list_sound capacity p list) false

-- sixteen numbers for each call: acquire from 16 on, release 32, borrowed 48, locked 64, find 80, recover 96. Any other names no place
unfoldable pub place_read : ℕ → Remembered → Option Place
place_read capacity c =
    cond (nat_lt c.place 16) None
    (cond (nat_lt c.place 32) (option_map (λ p. Acquire p) (acquire_read (c.place - 16) c))
    (cond (nat_lt c.place 48) (option_map (λ p. Release p) (release_read (c.place - 32) c))
    (cond (nat_lt c.place 64) (option_map (λ p. Borrowed p) (count_read (c.place - 48) c.counting))
    (cond (c.place == 64) (Some LockedLook)
    (cond (c.place == 80) (Some (Find (find_read c)))
    (cond (nat_lt c.place 96) None (option_map (λ p. Recover p) (recover_read capacity (c.place - 96) c))))))))

-- opened: the number read as a place, and what it remembers judged
abbrev pub opened_from : ℕ → Option Place → OwnerList → Option Place
opened_from capacity None list = None
opened_from capacity (Some p) list = cond (sound capacity p list) (Some p) None

unfoldable pub opened_at : ℕ → Remembered → OwnerList → Option Place
opened_at capacity c list = opened_from capacity (place_read capacity c) list

-- closed: what the place remembers, and 0 for all else
abbrev pub borrowed_closed : CountPlace → Remembered
borrowed_closed p = robust_call (((count_closed p).part + 48) % 2 ^ 8) 0 (index 0) (owner 0) (generation 0) 0 0 (count_closed p).counting

abbrev pub locked_closed : Remembered
locked_closed = robust_call 64 0 (index 0) (owner 0) (generation 0) 0 0 no_counting

abbrev pub closed_at : Place → Remembered
closed_at (Acquire p) = acquire_closed p
closed_at (Release p) = release_closed p
closed_at (Borrowed p) = borrowed_closed p
closed_at LockedLook = locked_closed
closed_at (Find p) = find_closed p
closed_at (Recover p) = recover_closed p
