-- How a plain call goes on after each access, to be read against unique_index_set.rs: the local work between two shared accesses.
use Rattle.std.specs.Prelude.{ℕ, Bool, cond, leb, eqb}
use Rattle.std.specs.declared.ops.ControlFlow.{ControlFlow}
use Rattle.std.specs.declared.ops.ControlFlow.TheVariants.{Continue, Break}
use Rattle.unique_index_set_enums.specs.declared.Index.{Index}
use Rattle.unique_index_set_enums.specs.declared.ReleaseMode.{ReleaseMode}
use Rattle.unique_index_set_enums.specs.declared.ReleaseMode.TheVariants.{Default, LockIfLastIndex}
use Rattle.unique_index_set_enums.specs.declared.ReleaseState.{ReleaseState}
use Rattle.unique_index_set_enums.specs.declared.ReleaseState.TheVariants.{Unlocked, Locked}
use Rattle.unique_index_set_enums.specs.declared.UniqueIndexSetAcquireFailure.TheVariants.{OutOfIndices, IsLocked}
use Rattle.unique_index_set_enums.specs.Kinds.{index}
use Rattle.unique_index_set_enums.specs.Limits.{lock_acquire}
use Rattle.calls.specs.declared.Answer.{Answer}
use Rattle.calls.specs.declared.Answer.TheVariants as answer
use Rattle.head_details.specs.Word.{head_of, borrowed_of}
use Rattle.plain_places.specs.declared.Place.{Place}
use Rattle.plain_places.specs.declared.Place.TheVariants.{AcquireLook, AcquireRead, AcquireExchange, AcquireWrite, ReleaseLook, ReleaseWrite, ReleaseExchange, BorrowedLook, LockedLook}
use Rattle.plain_places.specs.Places.{may_release}
use Rattle.plain_calls.specs.declared.resumes.Saw.{Saw}

-- 395 to 401: an acquire's look at a word
unfoldable pub acquire_looked : ℕ → ℕ → ControlFlow Answer Place
acquire_looked capacity w =
    cond (leb capacity (head_of w)) (Break (answer.NotAcquired OutOfIndices))
    (cond (eqb (borrowed_of w) lock_acquire) (Break (answer.NotAcquired IsLocked)) (Continue (AcquireRead w)))

-- a release's look at a word: 14 where the borrowed count is 0 or locked, which the Rust does not test
unfoldable pub release_looked : Index → ReleaseMode → ℕ → ControlFlow Answer Place
release_looked i m w = cond (may_release w) (Continue (ReleaseWrite i m w)) (Break answer.NotBorrowed)

-- 454 to 461: what a release that won answers
abbrev pub release_state : ReleaseMode → ℕ → ReleaseState
release_state Default borrowed = Unlocked
release_state LockIfLastIndex borrowed = cond (eqb borrowed 1) Locked Unlocked

-- 345 to 348
unfoldable pub borrowed_indices : ℕ → ℕ
borrowed_indices w = cond (eqb (borrowed_of w) lock_acquire) 0 (borrowed_of w)

-- 352 to 355
unfoldable pub is_locked : ℕ → Bool
is_locked w = eqb (borrowed_of w) lock_acquire

-- the local work after the access: a failed exchange is a look at the word that it found (417 to 420, 479 to 482), and the index
-- won is the head that was seen (424)
abbrev pub resumed_at : ℕ → Place → Saw → ControlFlow Answer Place
resumed_at capacity AcquireLook saw = acquire_looked capacity saw.word
resumed_at capacity (AcquireRead seen) saw = Continue (AcquireExchange seen saw.value)
resumed_at capacity (AcquireExchange seen value) saw = cond saw.won (Continue (AcquireWrite (index (head_of seen)))) (acquire_looked capacity saw.word)
resumed_at capacity (AcquireWrite i) saw = Break (answer.Acquired i)
resumed_at capacity (ReleaseLook i m) saw = release_looked i m saw.word
resumed_at capacity (ReleaseWrite i m seen) saw = Continue (ReleaseExchange i m seen)
resumed_at capacity (ReleaseExchange i m seen) saw = cond saw.won (Break (answer.Released (release_state m (borrowed_of seen)))) (release_looked i m saw.word)
resumed_at capacity BorrowedLook saw = Break (answer.Borrowed (borrowed_indices saw.word))
resumed_at capacity LockedLook saw = Break (answer.Locked (is_locked saw.word))
