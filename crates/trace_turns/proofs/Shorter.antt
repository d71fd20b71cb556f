-- A turn's entry has bytes, so that less is left behind it. Assumes nothing.
use Rattle.std.proofs.Common.{◌≡◌, ◌<◌, ◌≤◌, true, List, ℕ, length, drop, refl, ap, arith, length-drop}
use Rattle.std.specs.Prelude.{Result, Ok, Err}
use Rattle.schedule.specs.declared.Entry.{Entry}
use Rattle.schedule.specs.declared.NoEntry.{NoEntry}
use Rattle.schedule.specs.Format.{entry_of, is_whole, size_by, size_of, rest_of}
use Rattle.schedule.proofs.Laws.{no, whole}
use Rattle.trace_turns.specs.Scenes.{is_turn}

pub turn_whole : (e : Result Entry NoEntry) → is_turn e ≡ true → is_whole e ≡ true
turn_whole (Ok e) t = refl
turn_whole (Err why) t = no t

pub turn_shorter : (b : List ℕ) → is_turn (entry_of b) ≡ true → length (rest_of b) < length b
unfolding rest_of size_of
turn_shorter b t = by-entry (entry_of b) refl t
  where
    by-entry : (e : Result Entry NoEntry) → entry_of b ≡ e → is_turn e ≡ true → length (drop (size_by e b) b) < length b
    by-entry (Ok x) is t = let long : 4 ≤ length b = (whole b (ap is_whole is)).long in omega (arith, length-drop {A = ℕ}, long)
    by-entry (Err why) is t = no t
