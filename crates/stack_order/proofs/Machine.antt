-- The plain set as a machine of its own, with no buffers' kinds and no refusals: what a step of one record does to the shared words, and what it leaves in
-- the history. It is no part of the statement (Demand.antt does not name it): the proof goes by way of it, and `Bridge` shows that the set's own steps are these.
use Prim.Native.Nat.{ℕ, ◌+◌, ◌-◌, ◌*◌, ◌/◌, ◌%◌, ◌^◌}
use mathlib.Core.Bool.{Bool, true, false, cond, ◌||◌}
use mathlib.Core.List.{List, [], ◌∷◌}
use lib.ListN.{get_or, set}
use lib.Dec.{leb, eqb}
use Rattle.unique_index_set_enums.specs.declared.ReleaseMode.{ReleaseMode}
use Rattle.unique_index_set_enums.specs.declared.UniqueIndexSetAcquireFailure.TheVariants.{OutOfIndices, IsLocked}
use Rattle.unique_index_set_enums.specs.Kinds.{index}
use Rattle.calls.specs.declared.Answer.{Answer}
use Rattle.calls.specs.declared.Answer.TheVariants as answer
use Rattle.stack_order.specs.Stack.{acquire, borrowed_indices, is_locked, release, Call, locks, state_of}

-- bits 40..63 head, 24..39 tag, 0..23 borrowed
unfoldable pub head_of : ℕ → ℕ
head_of w = w / 2 ^ 40 % 2 ^ 24

unfoldable pub tag_of : ℕ → ℕ
tag_of w = w / 2 ^ 24 % 65536

unfoldable pub bor_of : ℕ → ℕ
bor_of w = w % 2 ^ 24

unfoldable pub pack : ℕ → ℕ → ℕ → ℕ
pack h t b = h % 2 ^ 24 * 2 ^ 40 + t * 2 ^ 24 + b % 2 ^ 24

abbrev pub lock_mark : ℕ
lock_mark = 0xff_ffff

-- where a record stands in its call
pub data Place : Type 0 where
  idle acquire_look borrowed_look locked_look : Place
  acquire_read : ℕ → Place
  acquire_exchange : ℕ → ℕ → Place
  acquire_write : ℕ → Place
  release_look : ℕ → ReleaseMode → Place
  release_write : ℕ → ReleaseMode → ℕ → Place
  release_exchange : ℕ → ReleaseMode → ℕ → Place

abbrev pub out_of_indices : Answer
out_of_indices = answer.NotAcquired OutOfIndices

abbrev pub is_locked_answer : Answer
is_locked_answer = answer.NotAcquired IsLocked

-- the custody buffer's entries
abbrev pub free : ℕ
free = 0

abbrev pub granting : ℕ → ℕ
granting r = 1 + r * 256 + 0 * 65_536

abbrev pub held : ℕ → ℕ
held r = 2 + r * 256 + 0 * 65_536

abbrev pub giving : ℕ → ℕ
giving r = 3 + r * 256 + r * 65_536

pub record Rec : Type 0 where
  pub place : Place
  pub dead : Bool

-- what stands for a record that is not in the table
abbrev pub nobody : Rec
nobody = record { place = idle; dead = true }

abbrev pub at : Place → Rec
at p = record { place = p; dead = false }

-- the shared words, as one step sees and leaves them
pub record Shared : Type 0 where
  pub word : ℕ
  pub slots : List ℕ
  pub custody : List ℕ

-- what a step of one record does, and leaves in the history
pub record Effect : Type 0 where
  pub shared : Shared
  pub place : Place
  pub looks : Bool
  pub exchanges : Bool
  pub wins : Bool
  pub judged : List Call
  pub answers : List Call

-- a look, a read, a lost exchange: nothing shared changes, the call goes on (x: it was an exchange)
abbrev pub goes_on : Shared → Bool → Bool → Place → Effect
goes_on s x l p = record { shared = s; place = p; looks = l; exchanges = x; wins = false; judged = []; answers = [] }

-- a look that ends the call
abbrev pub ends : Shared → Bool → Call → Effect
ends s x c = record { shared = s; place = idle; looks = true; exchanges = x; wins = false; judged = c ∷ []; answers = c ∷ [] }

-- an acquire's look at the word w: the tests 'head at or above capacity' and 'locked'
unfoldable pub acquire_judge : Shared → Bool → ℕ → Bool → Bool → Effect
acquire_judge s x w true l = ends s x (record { called = acquire; answer = out_of_indices })
acquire_judge s x w false true = ends s x (record { called = acquire; answer = is_locked_answer })
acquire_judge s x w false false = goes_on s x true (acquire_read w)

unfoldable pub acquire_looks : ℕ → Shared → Bool → Effect
acquire_looks cap s x = acquire_judge s x s.word (leb cap (head_of s.word)) (eqb (bor_of s.word) lock_mark)

-- an acquire's exchange, by whether the word is the remembered one
unfoldable pub acquire_exchanges : ℕ → Shared → ℕ → ℕ → ℕ → Bool → Effect
acquire_exchanges cap s r w v true = record {
  shared = record { word = pack v ((tag_of w + 1) % 65536) (bor_of w + 1); slots = s.slots; custody = set s.custody (head_of w) (granting r) };
  place = acquire_write (head_of w);
  looks = false;
  exchanges = true;
  wins = true;
  judged = record { called = acquire; answer = answer.Acquired (index (head_of w)) } ∷ [];
  answers = [];
}
acquire_exchanges cap s r w v false = acquire_looks cap s true

-- a release's look at the word w: the test 'borrowed 0 or locked'
unfoldable pub release_judge : Shared → Bool → ℕ → ReleaseMode → ℕ → ℕ → Bool → Effect
release_judge s x i m r w true = record {
  shared = record { word = s.word; slots = s.slots; custody = set s.custody i (held r) };
  place = idle;
  looks = true;
  exchanges = x;
  wins = false;
  judged = record { called = release (index i) m; answer = answer.NotBorrowed } ∷ [];
  answers = record { called = release (index i) m; answer = answer.NotBorrowed } ∷ [];
}
release_judge s x i m r w false = goes_on s x true (release_write i m w)

unfoldable pub release_looks : Shared → Bool → ℕ → ReleaseMode → ℕ → Effect
release_looks s x i m r = release_judge s x i m r s.word (eqb (bor_of s.word) 0 || eqb (bor_of s.word) lock_mark)

-- what a release leaves in the borrowed bits, by whether it locks
abbrev pub borrowed_after : ℕ → Bool → ℕ
borrowed_after b true = lock_mark
borrowed_after b false = b - 1

unfoldable pub release_exchanges : Shared → ℕ → ReleaseMode → ℕ → ℕ → Bool → Effect
release_exchanges s i m r w true =
    let c : Call = record { called = release (index i) m; answer = answer.Released (state_of (locks m (bor_of w))) } in
    record {
      shared = record { word = pack i ((tag_of w + 1) % 65536) (borrowed_after (bor_of w) (locks m (bor_of w))); slots = s.slots; custody = set s.custody i free };
      place = idle;
      looks = false;
      exchanges = true;
      wins = true;
      judged = c ∷ [];
      answers = c ∷ [];
    }
release_exchanges s i m r w false = release_looks s true i m r

-- one step of the record r at a place
unfoldable pub step_at : ℕ → Shared → ℕ → Place → Effect
step_at cap s r idle = goes_on s false false idle
step_at cap s r acquire_look = acquire_looks cap s false
step_at cap s r borrowed_look = ends s false (record { called = borrowed_indices; answer = answer.Borrowed (cond (eqb (bor_of s.word) lock_mark) 0 (bor_of s.word)) })
step_at cap s r locked_look = ends s false (record { called = is_locked; answer = answer.Locked (eqb (bor_of s.word) lock_mark) })
step_at cap s r (acquire_read w) = goes_on s false false (acquire_exchange w (get_or s.slots (head_of w) 0))
step_at cap s r (acquire_exchange w v) = acquire_exchanges cap s r w v (eqb w s.word)
step_at cap s r (acquire_write i) = record {
  shared = record { word = s.word; slots = set s.slots i (cap + 1); custody = set s.custody i (held r) };
  place = idle;
  looks = false;
  exchanges = false;
  wins = false;
  judged = [];
  answers = record { called = acquire; answer = answer.Acquired (index i) } ∷ [];
}
step_at cap s r (release_look i m) = release_looks s false i m r
step_at cap s r (release_write i m w) = goes_on (record { word = s.word; slots = set s.slots i (head_of w); custody = s.custody }) false false (release_exchange i m w)
step_at cap s r (release_exchange i m w) = release_exchanges s i m r w (eqb w s.word)
