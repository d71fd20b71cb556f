-- A table of records over the machine's shared words, and what an entry of a run may do to it.
use Prim.Native.Nat.{ℕ, ◌%◌, ◌<◌}
use mathlib.Core.Path.{◌≡◌}
use mathlib.Core.Bool.{Bool, true, false, cond, ◌&&◌}
use mathlib.Core.List.{List, [], ◌∷◌}
use lib.ListN.{get_or, set}
use lib.Dec.{eqb}
use Rattle.unique_index_set_enums.specs.declared.ReleaseMode.{ReleaseMode}
use Rattle.unique_index_set_enums.specs.Kinds.{index, record_number}
use Rattle.calls.specs.declared.Answer.TheVariants as answer
use Rattle.stack_order.specs.Stack.{Called, acquire, borrowed_indices, is_locked, release, Call}
use Rattle.stack_order.specs.History.{Event}
use Rattle.stack_order.proofs.Machine.{free, giving, Place, idle, acquire_look, borrowed_look, locked_look, acquire_read, acquire_exchange, acquire_write, release_look, release_write, release_exchange, Rec, nobody, at, Shared, Effect, step_at}

pub record State : Type 0 where
  pub shared : Shared
  pub recs : List Rec

abbrev pub place_of : List Rec → ℕ → Place
place_of l r = (get_or l r nobody).place

-- where a record stands that can still go on: a dead one stands idle
abbrev pub live_place : Rec → Place
live_place x = cond x.dead idle x.place

abbrev pub live_of : List Rec → ℕ → Place
live_of l r = live_place (get_or l r nobody)

abbrev pub started : ℕ → List Called → Event
started r calls = record { by = record_number r; looks = false; exchanges = false; wins = false; starts = calls; orders = []; ends = [] }

pub record Turned : Type 0 where
  pub state : State
  pub event : Event

abbrev pub put : State → ℕ → Rec → State
put st r x = record { shared = st.shared; recs = set st.recs r x }

-- a step's effect on the whole state
abbrev pub applied : State → ℕ → Effect → Turned
applied st r f = record {
  state = record { shared = f.shared; recs = set st.recs r (at f.place) };
  event = record { by = record_number r; looks = f.looks; exchanges = f.exchanges; wins = f.wins; starts = []; orders = f.judged; ends = f.answers };
}

abbrev pub start_put : State → ℕ → Place → Called → Turned
start_put st r p c = record { state = put st r (at p); event = started r (c ∷ []) }

-- a release's start marks its index as being given back
abbrev pub release_put : State → ℕ → ℕ → ReleaseMode → Turned
release_put st r i m = record {
  state = record {
    shared = record { word = st.shared.word; slots = st.shared.slots; custody = set st.shared.custody i (giving r) };
    recs = set st.recs r (at (release_look i m));
  };
  event = started r (release (index i) m ∷ []);
}

abbrev pub death_put : State → ℕ → State
death_put st r = put st r (record { place = place_of st.recs r; dead = true })

-- when each record looked last, after an event by r that looked or not, at n changes
abbrev pub look_after : Bool → ℕ → ℕ → (ℕ → ℕ) → ℕ → ℕ
look_after l r n lk q = cond (l && eqb r q) n (lk q)

-- the call that a record is in, and the unfinished call that counts
abbrev pub current : Place → List Called
current idle = []
current acquire_look = acquire ∷ []
current borrowed_look = borrowed_indices ∷ []
current locked_look = is_locked ∷ []
current (acquire_read w) = acquire ∷ []
current (acquire_exchange w v) = acquire ∷ []
current (acquire_write i) = acquire ∷ []
current (release_look i m) = release (index i) m ∷ []
current (release_write i m w) = release (index i) m ∷ []
current (release_exchange i m w) = release (index i) m ∷ []

abbrev pub pending : Place → List Call
pending idle = []
pending acquire_look = []
pending borrowed_look = []
pending locked_look = []
pending (acquire_read w) = []
pending (acquire_exchange w v) = []
pending (acquire_write i) = record { called = acquire; answer = answer.Acquired (index i) } ∷ []
pending (release_look i m) = []
pending (release_write i m w) = []
pending (release_exchange i m w) = []

abbrev pub ops : List Call → List Called
ops [] = []
ops (c ∷ cs) = c.called ∷ ops cs

-- a held index, by the custody buffer
abbrev pub Held : ℕ → Type 0
Held c = c % 256 ≡ 2

-- the index i is held, by the custody buffer
abbrev pub HeldAt : ℕ → List ℕ → ℕ → Type 0
HeldAt cap l i = (i < cap) × Held (get_or l i free)

-- What an accepted start or step may do, whatever else is refused: a live record steps, or starts a call while idle; a release's start is of a held index.
pub data Turns (cap : ℕ) (st : State) : Turned → Type 0 where
  steps : (r : ℕ) → (get_or st.recs r nobody).dead ≡ false → Turns cap st (applied st r (step_at cap st.shared r (place_of st.recs r)))
  acquires : (r : ℕ) → (get_or st.recs r nobody).dead ≡ false → place_of st.recs r ≡ idle → Turns cap st (start_put st r acquire_look acquire)
  counts_out : (r : ℕ) → (get_or st.recs r nobody).dead ≡ false → place_of st.recs r ≡ idle → Turns cap st (start_put st r borrowed_look borrowed_indices)
  asks : (r : ℕ) → (get_or st.recs r nobody).dead ≡ false → place_of st.recs r ≡ idle → Turns cap st (start_put st r locked_look is_locked)
  releases : (r i : ℕ) (m : ReleaseMode) → (get_or st.recs r nobody).dead ≡ false → place_of st.recs r ≡ idle → HeldAt cap st.shared.custody i
      → Turns cap st (release_put st r i m)
