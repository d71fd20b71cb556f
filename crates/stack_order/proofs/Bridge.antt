-- The plain set's own step, access by access, is the machine's, and leaves the same in the history. Assumes nothing.
use Rattle.std.specs.Prelude.{None}
use Prim.Native.Nat.{ℕ, ◌+◌, ◌-◌, ◌%◌}
use mathlib.Core.Path.{◌≡◌, refl, ap}
use mathlib.Core.Bool.{Bool, true, false, cond, not, ◌||◌}
use lib.Dec.{leb, eqb}
use lib.ListN.{set}
use Rattle.unique_index_set_enums.specs.declared.Index.{Index}
use Rattle.unique_index_set_enums.specs.declared.RecordNumber.{RecordNumber}
use Rattle.unique_index_set_enums.specs.declared.ReleaseMode.{ReleaseMode}
use Rattle.unique_index_set_enums.specs.declared.ReleaseMode.TheVariants.{Default, LockIfLastIndex}
use Rattle.unique_index_set_enums.specs.declared.ReleaseState.TheVariants.{Unlocked, Locked}
use Rattle.unique_index_set_enums.specs.declared.UniqueIndexSetAcquireFailure.TheVariants.{OutOfIndices, IsLocked}
use Rattle.unique_index_set_enums.specs.Limits.{lock_acquire}
use Rattle.calls.specs.declared.Answer.{Answer}
use Rattle.calls.specs.declared.Answer.TheVariants as answer
use Rattle.head_details.specs.Word as word
use Rattle.custody.specs.declared.Custody.TheVariants.{Held}
use Rattle.plain_places.specs.declared.Place.{Place}
use Rattle.plain_places.specs.declared.Place.TheVariants.{AcquireLook, AcquireRead, AcquireExchange, AcquireWrite, ReleaseLook, ReleaseWrite, ReleaseExchange, BorrowedLook, LockedLook}
use Rattle.plain_places.specs.Places.{may_release}
use Rattle.plain_calls.specs.declared.resumes.Saw.{Saw}
use Rattle.std.specs.declared.ops.ControlFlow.{ControlFlow}
use Rattle.std.specs.declared.ops.ControlFlow.TheVariants.{Continue, Break}
use Rattle.plain_calls.specs.Resumes.{acquire_looked, release_looked, release_state, borrowed_indices, is_locked}
use Rattle.plain_calls.specs.Marks.{mark_as, release_mark}
use Rattle.unique_index_set.specs.Accesses.{acquired_word, released_count, released_word}
use Rattle.unique_index_set.specs.Custodies.{marked}
use Rattle.unique_index_set.specs.Steps.{Shared, saw_at, next_at, shared_after}
use Rattle.stack_order.specs.Stack.{Called, acquire, release, locks, state_of}
use Rattle.stack_order.specs.History.{call_at, exchanges_at, wins_at, looks_at, ends_with, orders_at}
use Rattle.stack_order.proofs.Machine as M

-- the set's places and words as the machine's
abbrev pub place_in : Place → M.Place
place_in AcquireLook = M.acquire_look
place_in (AcquireRead seen) = M.acquire_read seen
place_in (AcquireExchange seen value) = M.acquire_exchange seen value
place_in (AcquireWrite i) = M.acquire_write i.0
place_in (ReleaseLook i m) = M.release_look i.0 m
place_in (ReleaseWrite i m seen) = M.release_write i.0 m seen
place_in (ReleaseExchange i m seen) = M.release_exchange i.0 m seen
place_in BorrowedLook = M.borrowed_look
place_in LockedLook = M.locked_look

abbrev pub shared_in : Shared → M.Shared
shared_in s = record { word = s.set.head; slots = s.slots; custody = s.custody }

-- where a record stands after its step
abbrev pub stands_next : ControlFlow Answer Place → M.Place
stands_next (Continue q) = place_in q
stands_next (Break a) = M.idle

-- what is to be the same
pub record Same (p : Place) (saw : Saw) (next : ControlFlow Answer Place) (after : Shared) (f : M.Effect) : Type 0 where
  pub shared : shared_in after ≡ f.shared
  pub stands : stands_next next ≡ f.place
  pub looks : looks_at p saw ≡ f.looks
  pub exchanges : exchanges_at p ≡ f.exchanges
  pub wins : wins_at p saw ≡ f.wins
  pub orders : orders_at p saw next ≡ f.judged
  pub ends : ends_with (call_at p) next ≡ f.answers

-- an acquire's look, by its two tests
acquire_judge_same : (p : Place) (saw : Saw) (after : Shared) (S : M.Shared) (x : Bool) (w : ℕ) (b c : Bool) → shared_in after ≡ S → call_at p ≡ acquire → looks_at p saw ≡ true → exchanges_at p ≡ x
    → wins_at p saw ≡ false → ((n : ControlFlow Answer Place) → orders_at p saw n ≡ ends_with acquire n)
    → Same p saw (cond b (Break (answer.NotAcquired OutOfIndices)) (cond c (Break (answer.NotAcquired IsLocked)) (Continue (AcquireRead w)))) after (M.acquire_judge S x w b c)
unfolding M.acquire_judge
acquire_judge_same p saw after S x w true c e ca lo ex wi or = record { shared = e; stands = refl; looks = lo; exchanges = ex; wins = wi; orders = or _; ends = ap (λ (z : Called). ends_with z (Break (answer.NotAcquired OutOfIndices))) ca }
acquire_judge_same p saw after S x w false true e ca lo ex wi or = record { shared = e; stands = refl; looks = lo; exchanges = ex; wins = wi; orders = or _; ends = ap (λ (z : Called). ends_with z (Break (answer.NotAcquired IsLocked))) ca }
acquire_judge_same p saw after S x w false false e ca lo ex wi or = record { shared = e; stands = refl; looks = lo; exchanges = ex; wins = wi; orders = or _; ends = refl }

-- a release's look, by its two tests
release_judge_same : (p : Place) (saw : Saw) (after : Shared) (S : M.Shared) (x : Bool) (i : Index) (m : ReleaseMode) (who : RecordNumber) (w : ℕ) (y z : Bool)
    → shared_in after ≡ record { word = S.word; slots = S.slots; custody = marked (cond (cond y false (not z)) None (mark_as i (Held who))) S.custody }
    → call_at p ≡ release i m → looks_at p saw ≡ true → exchanges_at p ≡ x → wins_at p saw ≡ false → ((n : ControlFlow Answer Place) → orders_at p saw n ≡ ends_with (release i m) n)
    → Same p saw (cond (cond y false (not z)) (Continue (ReleaseWrite i m w)) (Break answer.NotBorrowed)) after (M.release_judge S x i.0 m who.0 w (y || z))
unfolding M.release_judge
release_judge_same p saw after S x i m who w true z e ca lo ex wi or = record { shared = e; stands = refl; looks = lo; exchanges = ex; wins = wi; orders = or _; ends = ap (λ (c : Called). ends_with c (Break answer.NotBorrowed)) ca }
release_judge_same p saw after S x i m who w false true e ca lo ex wi or = record { shared = e; stands = refl; looks = lo; exchanges = ex; wins = wi; orders = or _; ends = ap (λ (c : Called). ends_with c (Break answer.NotBorrowed)) ca }
release_judge_same p saw after S x i m who w false false e ca lo ex wi or = record { shared = e; stands = refl; looks = lo; exchanges = ex; wins = wi; orders = or _; ends = refl }

-- the words and states that the set makes
acquired_same : (w v : ℕ) → acquired_word w v ≡ M.pack v ((M.tag_of w + 1) % 65536) (M.bor_of w + 1)
unfolding acquired_word M.pack M.tag_of M.bor_of
acquired_same w v = refl

count_same : (m : ReleaseMode) (b : ℕ) → released_count m b ≡ M.borrowed_after b (locks m b)
count_same Default b = refl
count_same LockIfLastIndex b = by-test (eqb b 1)
  where
    by-test : (t : Bool) → cond t lock_acquire (b - 1) ≡ M.borrowed_after b t
    by-test true = refl
    by-test false = refl

released_same : (i : Index) (m : ReleaseMode) (w : ℕ) → released_word i m w ≡ M.pack i.0 ((M.tag_of w + 1) % 65536) (M.borrowed_after (M.bor_of w) (locks m (M.bor_of w)))
unfolding released_word M.pack M.tag_of M.bor_of
released_same i m w = rw (← count_same m (word.borrowed_of w)) refl

state_same : (m : ReleaseMode) (b : ℕ) → release_state m b ≡ state_of (locks m b)
state_same Default b = refl
state_same LockIfLastIndex b = by-test (eqb b 1)
  where
    by-test : (t : Bool) → cond t Locked Unlocked ≡ state_of t
    by-test true = refl
    by-test false = refl

module _ (who : RecordNumber) (s : Shared) where
  abbrev capacity : ℕ
  capacity = s.set.capacity

  abbrev S : M.Shared
  S = shared_in s

  acquire_exchange_same : (w v : ℕ) (a : Bool) → eqb w s.set.head ≡ a
      → Same (AcquireExchange w v) (saw_at (AcquireExchange w v) s) (next_at (AcquireExchange w v) s) (shared_after who (AcquireExchange w v) s) (M.acquire_exchanges capacity S who.0 w v a)
  unfolding shared_after M.acquire_exchanges M.acquire_looks acquire_looked M.head_of M.bor_of
  acquire_exchange_same w v true e = record {
    shared = rw e (ap (λ (z : ℕ). record { word = z; slots = s.slots; custody = set s.custody (word.head_of w) (M.granting who.0) }) (acquired_same w v));
    stands = rw e refl;
    looks = rw e refl;
    exchanges = refl;
    wins = rw e refl;
    orders = rw e refl;
    ends = rw e refl;
  }
  acquire_exchange_same w v false e =
      rw e
      (acquire_judge_same (AcquireExchange w v) (record { won = false; word = s.set.head; value = 0 }) _ S true s.set.head (leb capacity (word.head_of s.set.head)) (eqb (word.borrowed_of s.set.head) lock_acquire) refl refl refl refl refl (λ n. refl))

  release_exchange_same : (i : Index) (m : ReleaseMode) (w : ℕ) (a : Bool) → eqb w s.set.head ≡ a
      → Same (ReleaseExchange i m w) (saw_at (ReleaseExchange i m w) s) (next_at (ReleaseExchange i m w) s) (shared_after who (ReleaseExchange i m w) s) (M.release_exchanges S i.0 m who.0 w a)
  unfolding shared_after M.release_exchanges M.release_looks release_looked release_mark may_release M.head_of M.bor_of
  release_exchange_same i m w true e = record {
    shared = rw e (ap (λ (z : ℕ). record { word = z; slots = s.slots; custody = set s.custody i.0 0 }) (released_same i m w));
    stands = rw e refl;
    looks = rw e refl;
    exchanges = refl;
    wins = rw e refl;
    orders = rw (e, state_same m (word.borrowed_of w)) refl;
    ends = rw (e, state_same m (word.borrowed_of w)) refl;
  }
  release_exchange_same i m w false e =
      rw e
      (release_judge_same (ReleaseExchange i m w) (record { won = false; word = s.set.head; value = 0 }) _ S true i m who s.set.head (eqb (word.borrowed_of s.set.head) 0) (eqb (word.borrowed_of s.set.head) lock_acquire) refl refl refl refl refl (λ n. refl))

  pub same_step : (p : Place) → Same p (saw_at p s) (next_at p s) (shared_after who p s) (M.step_at capacity S who.0 (place_in p))
  unfolding shared_after M.step_at M.acquire_looks M.release_looks acquire_looked release_looked release_mark may_release M.head_of M.bor_of borrowed_indices is_locked
  same_step AcquireLook = acquire_judge_same AcquireLook (saw_at AcquireLook s) _ S false s.set.head (leb capacity (word.head_of s.set.head)) (eqb (word.borrowed_of s.set.head) lock_acquire) refl refl refl refl refl (λ n. refl)
  same_step (AcquireRead w) = record { shared = refl; stands = refl; looks = refl; exchanges = refl; wins = refl; orders = refl; ends = refl }
  same_step (AcquireExchange w v) = acquire_exchange_same w v _ refl
  same_step (AcquireWrite i) = record { shared = refl; stands = refl; looks = refl; exchanges = refl; wins = refl; orders = refl; ends = refl }
  same_step (ReleaseLook i m) = release_judge_same (ReleaseLook i m) (saw_at (ReleaseLook i m) s) _ S false i m who s.set.head (eqb (word.borrowed_of s.set.head) 0) (eqb (word.borrowed_of s.set.head) lock_acquire) refl refl refl refl refl (λ n. refl)
  same_step (ReleaseWrite i m w) = record { shared = refl; stands = refl; looks = refl; exchanges = refl; wins = refl; orders = refl; ends = refl }
  same_step (ReleaseExchange i m w) = release_exchange_same i m w _ refl
  same_step BorrowedLook = record { shared = refl; stands = refl; looks = refl; exchanges = refl; wins = refl; orders = refl; ends = refl }
  same_step LockedLook = record { shared = refl; stands = refl; looks = refl; exchanges = refl; wins = refl; orders = refl; ends = refl }
