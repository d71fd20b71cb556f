-- The plain set's shared accesses, to be read against unique_index_set.rs: `access_at` is the one shared access of each place, `saw_of`,
-- `word_after` and `slots_after` what that access shows and does. The local work after it is `resumed_at` of plain_calls.
use Rattle.std.specs.Prelude.{ℕ, ◌+◌, ◌-◌, ◌%◌, ◌^◌, Bool, true, cond, List, ◌==◌, nat_lt, slice_index, slice_set}
use Rattle.unique_index_set_enums.specs.declared.Index.{Index}
use Rattle.unique_index_set_enums.specs.declared.ReleaseMode.{ReleaseMode}
use Rattle.unique_index_set_enums.specs.declared.ReleaseMode.TheVariants.{Default, LockIfLastIndex}
use Rattle.unique_index_set_enums.specs.Kinds.{index}
use Rattle.unique_index_set_enums.specs.Limits.{lock_acquire}
use Rattle.head_details.specs.Word.{head_of, tag_of, borrowed_of, details, packed}
use Rattle.plain_places.specs.declared.Place.{Place}
use Rattle.plain_places.specs.declared.Place.TheVariants.{AcquireLook, AcquireRead, AcquireExchange, AcquireWrite, ReleaseLook, ReleaseWrite, ReleaseExchange, BorrowedLook, LockedLook}
use Rattle.unique_index_set.specs.declared.accesses.Access.{Access}
use Rattle.unique_index_set.specs.declared.accesses.Access.TheVariants.{Look, Exchange, Read, Write}
use Rattle.plain_calls.specs.declared.resumes.Saw.{Saw}

abbrev next_tag : ℕ → ℕ
next_tag w = (tag_of w + 1) % 2 ^ 16

-- 403 to 408: the word that an acquire exchanges for the seen one
unfoldable pub acquired_word : ℕ → ℕ → ℕ
acquired_word seen value = packed (details value (next_tag seen) (borrowed_of seen + 1))

-- 454 to 461: the borrowed count after a release
abbrev pub released_count : ReleaseMode → ℕ → ℕ
released_count Default borrowed = borrowed - 1
released_count LockIfLastIndex borrowed = cond (borrowed == 1) lock_acquire (borrowed - 1)

-- 463 to 468: the word that a release exchanges for the seen one
unfoldable pub released_word : Index → ReleaseMode → ℕ → ℕ
released_word i m seen = packed (details i.0 (next_tag seen) (released_count m (borrowed_of seen)))

-- the one shared access at each place: 391, 404, 410 and 425; 448, 452 and 470; 346; 353
abbrev pub access_at : ℕ → Place → Access
access_at capacity AcquireLook = Look
access_at capacity (AcquireRead seen) = Read (index (head_of seen))
access_at capacity (AcquireExchange seen value) = Exchange seen (acquired_word seen value)
access_at capacity (AcquireWrite i) = Write i (capacity + 1)
access_at capacity (ReleaseLook i m) = Look
access_at capacity (ReleaseWrite i m seen) = Write i (head_of seen)
access_at capacity (ReleaseExchange i m seen) = Exchange seen (released_word i m seen)
access_at capacity BorrowedLook = Look
access_at capacity LockedLook = Look

-- the access is within n slots (asked of `perform`; a sound place's always is)
abbrev pub within : ℕ → Access → Bool
within n Look = true
within n (Exchange old new) = true
within n (Read i) = nat_lt i.0 n
within n (Write i v) = nat_lt i.0 n

-- what an access shows: whether an exchange won, the word that a look or an exchange found, the value that a read found
abbrev pub saw_of : ℕ → Access → List ℕ → Saw
saw_of word Look slots = record { won = true; word = word; value = 0 }
saw_of word (Exchange old new) slots = record { won = (old == word); word = word; value = 0 }
saw_of word (Read i) slots = record { won = true; word = 0; value = slice_index slots i.0 }
saw_of word (Write i v) slots = record { won = true; word = 0; value = 0 }

-- and what it leaves of the head word and the slots: an exchange compares and replaces the whole word
abbrev pub word_after : ℕ → Access → ℕ
word_after word Look = word
word_after word (Exchange old new) = cond (old == word) new word
word_after word (Read i) = word
word_after word (Write i v) = word

abbrev pub slots_after : Access → List ℕ → List ℕ
slots_after Look slots = slots
slots_after (Exchange old new) slots = slots
slots_after (Read i) slots = slots
slots_after (Write i v) slots = slice_set slots i.0 v
