-- However a schedule's bytes are cut: the lines that the calls write are the trace of the whole, and there is one trace. The lists are of bytes; no
-- more is assumed.
use Prim.Native.Nat.{ℕ, zero, suc, ◌+◌, ◌-◌, ◌<◌}
use mathlib.Core.Path.{◌≡◌, refl, sym, ap, ◌∙◌, subst}
use mathlib.Core.Bool.{Bool, true, false, cond}
use mathlib.Core.List as list
use mathlib.Core.List.{[], ◌∷◌, ◌++◌, append_assoc, append-nil}
use native.Mathlib.Omega.{arith}
use lib.ListN.{length, drop}
use lib.Seq.{get_or-drop}
use Rattle.std.specs.Prelude.{Result, Ok, Err}
use Rattle.turns.specs.declared.Operation.TheVariants as operation
use Rattle.schedule.specs.declared.SetupEntry.{SetupEntry}
use Rattle.schedule.specs.declared.Entry.{Entry}
use Rattle.schedule.specs.declared.Entry.TheVariants.{Setup, Start, Step, Death, List}
use Rattle.schedule.specs.declared.NoEntry.{NoEntry}
use Rattle.schedule.specs.declared.NoEntry.TheVariants.{Cut, Bad}
use Rattle.schedule.specs.Format.{entry_of, rest_of, size_of, is_whole}
use Rattle.schedule.specs.Written.{Bytes}
use Rattle.schedule.proofs.Laws.{no}
use Rattle.schedule.proofs.Stays.{whole_stays, rest_grows, owners_stay, is_bad, bad_stays}
use Rattle.trace_text.specs.declared.Line.TheVariants as line
use Rattle.trace_text.specs.Lines.{Text, line_text}
use Rattle.trace_turns.specs.Scenes.{Scene, is_turn, turn_of, turn_at, scene_by, told_by, scene_after, told_in}
use Rattle.trace_turns.specs.Went.{Went, stopped, behind, lacks_room, goes_on, went, went_of}
use Rattle.trace_turns.proofs.Shorter.{turn_whole}
use Rattle.trace_turns.proofs.Rests.{went_ends, ends_there}
use Rattle.trace_lines.specs.declared.Stage.{Stage}
use Rattle.trace_lines.specs.declared.Stage.TheVariants as stage
use Rattle.trace_lines.specs.declared.Wants.TheVariants as wants
use Rattle.trace_lines.specs.declared.closings.Closing.{Closing}
use Rattle.trace_lines.specs.declared.closings.Closing.TheVariants as closing
use Rattle.trace_lines.specs.Setups.{opened_of}
use Rattle.trace_lines.specs.Pieces.{Pieced, piece, closing_of, closing_text, closed_by, running_of, opening_of, opened_piece, fresh_of, piece_of}
use Rattle.trace_lines.specs.Traces.{Runs, turns, ends, Traces, begins, lacks, runs, rests}
use Rattle.trace_lines.specs.Joined.{Joined, over, more, last}

-- ---- bytes, in parts
bytes_front : (a m : list.List ℕ) → Bytes (a ++ m) → Bytes a
bytes_front [] m h i = omega arith
bytes_front (x ∷ a) m h zero = h 0
bytes_front (x ∷ a) m h (suc i) = bytes_front a m (λ j. h (suc j)) i

bytes_back : (a m : list.List ℕ) → Bytes (a ++ m) → Bytes m
bytes_back [] m h i = h i
bytes_back (x ∷ a) m h i = bytes_back a m (λ j. h (suc j)) i

bytes_both : (a m : list.List ℕ) → Bytes a → Bytes m → Bytes (a ++ m)
bytes_both [] m h k i = k i
bytes_both (x ∷ a) m h k zero = h 0
bytes_both (x ∷ a) m h k (suc i) = bytes_both a m (λ j. h (suc j)) k i

bytes_drop : (n : ℕ) (b : list.List ℕ) → Bytes b → Bytes (drop n b)
bytes_drop n b h i = subst (λ (k : ℕ). k < 256) (sym (get_or-drop n b i 0)) (h (n + i))

-- ---- a turn is what it is where more bytes come
module _ (b m : list.List ℕ) (bytes : Bytes b) (t : is_turn (entry_of b) ≡ true) where
  w : is_whole (entry_of b) ≡ true
  w = turn_whole (entry_of b) t

  entry_same : entry_of (b ++ m) ≡ entry_of b
  entry_same = whole_stays b bytes w m

  same_turn : turn_at (b ++ m) ≡ turn_at b
  same_turn = ap (λ (x : Result Entry NoEntry). turn_of x (b ++ m)) entry_same ∙ by-entry (entry_of b) refl
    where
      by-entry : (x : Result Entry NoEntry) → entry_of b ≡ x → turn_of x (b ++ m) ≡ turn_of x b
      by-entry (Ok (Setup e)) is = refl
      by-entry (Ok (Start e)) is = refl
      by-entry (Ok (Step who)) is = refl
      by-entry (Ok (Death who)) is = refl
      by-entry (Ok (List e)) is = ap (λ (o : _). record { who = e.who; operation = operation.List (record { count = e.count; owners = o }) }) (owners_stay b bytes w e is m)
      by-entry (Err why) is = refl

  turn_same : is_turn (entry_of (b ++ m)) ≡ true
  turn_same = ap is_turn entry_same ∙ t

  scene_same : (s : Scene) → scene_after s (b ++ m) ≡ scene_after s b
  unfolding scene_after
  scene_same s = ap (scene_by s) same_turn

  told_same : (s : Scene) → told_in s (b ++ m) ≡ told_in s b
  unfolding told_in
  told_same s = ap (told_by s) same_turn

  -- so a turn, and then what follows it, is what follows in the longer
  longer_turn : (s : Scene) (text : Text) → Runs (scene_after s b) (rest_of b ++ m) text → Runs s (b ++ m) (told_in s b ++ text)
  longer_turn s text r = rw (sym (told_same s)) (turns {s = s} {bytes = b ++ m} {text = text} turn_same (rw (scene_same s, rest_grows b bytes w m) r))

goes_turn : (b : list.List ℕ) (room at : ℕ) → goes_on b room at ≡ true → is_turn (entry_of b) ≡ true
unfolding goes_on
goes_turn b room at g = by-test (lacks_room room at) g
  where
    by-test : (l : Bool) → cond l false (is_turn (entry_of b)) ≡ true → is_turn (entry_of b) ≡ true
    by-test true h = no h
    by-test false h = h

rest_bytes : (b : list.List ℕ) → Bytes b → Bytes (rest_of b)
unfolding rest_of
rest_bytes b h = bytes_drop (size_of b) b h

-- the turns of one call, and then what follows
by_going : (s : Scene) (b m : list.List ℕ) (text : Text) (later : Went) (g : Bool) → Bytes b → (g ≡ true → is_turn (entry_of b) ≡ true)
    → (Runs later.scene (later.rest ++ m) text → Runs (scene_after s b) (rest_of b ++ m) (later.text ++ text))
    → Runs (cond g (behind (told_in s b) later) (stopped s b)).scene ((cond g (behind (told_in s b) later) (stopped s b)).rest ++ m) text
    → Runs s (b ++ m) ((cond g (behind (told_in s b) later) (stopped s b)).text ++ text)
by_going s b m text later true h t f q = subst (Runs s (b ++ m)) (sym (append_assoc (told_in s b) later.text text)) (longer_turn b m h (t refl) s (later.text ++ text) (f q))
by_going s b m text later false h t f q = q

went_joined : (k room : ℕ) (s : Scene) (b m : list.List ℕ) (at : ℕ) (text : Text) → Bytes b → Runs (went k room s b at).scene ((went k room s b at).rest ++ m) text → Runs s (b ++ m) ((went k room s b at).text ++ text)
unfolding went
went_joined zero room s b m at text h r = r
went_joined (suc k) room s b m at text h r =
    by_going s b m text (went k room (scene_after s b) (rest_of b) (at + length (told_in s b))) (goes_on b room at) h (goes_turn b room at)
    (went_joined k room (scene_after s b) (rest_of b) m (at + length (told_in s b)) text (rest_bytes b h)) r

-- ---- what a stage says of a trace
abbrev is_over : Stage → Bool
is_over stage.Fresh = false
is_over stage.Running = false
is_over stage.Over = true

abbrev pub is_running : Stage → Bool
is_running stage.Fresh = false
is_running stage.Running = true
is_running stage.Over = false

over_none : {st : Stage} {s : Scene} {b : list.List ℕ} {t : Text} → Traces st s b t → is_over st ≡ true → t ≡ []
over_none (begins o r) e = no e
over_none (lacks o) e = no e
over_none (runs r) e = no e
over_none rests e = refl

is_runs : {st : Stage} {s : Scene} {b : list.List ℕ} {t : Text} → Traces st s b t → is_running st ≡ true → Runs s b t
is_runs (begins o r) e = no e
is_runs (lacks o) e = no e
is_runs (runs r) e = r
is_runs rests e = no e

-- ---- one call that is not the last, and one that is
abbrev Follows : Pieced → Stage → Scene → list.List ℕ → list.List ℕ → Type 0
Follows p st s b m = (text : Text) → Traces p.stage p.scene (drop p.used b ++ m) text → Traces st s (b ++ m) (p.text ++ text)

abbrev is_end : Closing → Bool
is_end closing.Turns = false
is_end closing.Waits = false
is_end closing.Ends = true
is_end closing.Bad = true

-- running
module _ (room : ℕ) (s : Scene) (b m : list.List ℕ) (h : Bytes b) where
  abbrev W : Went
  W = went_of room s b

  left_is : drop (length b - length W.rest) b ≡ W.rest
  left_is = ends_there b W.rest (went_ends (length b) room s b 0)

  rest_is_bytes : Bytes W.rest
  rest_is_bytes = subst Bytes left_is (bytes_drop (length b - length W.rest) b h)

  all_of : (text : Text) → Runs W.scene (W.rest ++ m) text → Traces stage.Running s (b ++ m) (W.text ++ text)
  all_of text r = runs (went_joined (length b) room s b m 0 text h r)

  goes_on_lem : (text : Text) → Traces stage.Running W.scene (drop (length b - length W.rest) b ++ m) text → Traces stage.Running s (b ++ m) (W.text ++ text)
  goes_on_lem text t = all_of text (subst (λ (z : list.List ℕ). Runs W.scene (z ++ m) text) left_is (is_runs t refl))

  -- what closes it, whatever is told then
  closes : (c : Closing) (text : Text) → Runs W.scene (W.rest ++ m) (closing_text W.scene.shared.set W.scene.counts c) → text ≡ []
      → Traces stage.Running s (b ++ m) ((W.text ++ closing_text W.scene.shared.set W.scene.counts c) ++ text)
  closes c text r e =
      subst (Traces stage.Running s (b ++ m)) (sym (ap (λ (z : Text). (W.text ++ closing_text W.scene.shared.set W.scene.counts c) ++ z) e ∙ append-nil (W.text ++ closing_text W.scene.shared.set W.scene.counts c))) (all_of _ r)

  stays_open : (text : Text) → Traces stage.Running W.scene (drop (length b - length W.rest) b ++ m) text → Traces stage.Running s (b ++ m) ((W.text ++ []) ++ text)
  stays_open text t = subst (λ (z : Text). Traces stage.Running s (b ++ m) (z ++ text)) (sym (append-nil W.text)) (goes_on_lem text t)

  by_closing : (c : Closing) → (is_end c ≡ true → Runs W.scene (W.rest ++ m) (closing_text W.scene.shared.set W.scene.counts c))
      → Follows (closed_by W (length b - length W.rest) c) stage.Running s b m
  by_closing closing.Turns f text t = stays_open text t
  by_closing closing.Waits f text t = stays_open text t
  by_closing closing.Ends f text t = closes closing.Ends text (f refl) (over_none t refl)
  by_closing closing.Bad f text t = closes closing.Bad text (f refl) (over_none t refl)

  abbrev End : Bool → Closing
  End final = closing_of (entry_of W.rest) (length W.rest) final

  by_room : (final l : Bool) → (is_end (End final) ≡ true → Runs W.scene (W.rest ++ m) (closing_text W.scene.shared.set W.scene.counts (End final)))
      → Follows (cond l (piece stage.Running W.scene (length b - length W.rest) W.text wants.Again) (closed_by W (length b - length W.rest) (End final))) stage.Running s b m
  by_room final true f text t = goes_on_lem text t
  by_room final false f text t = by_closing (End final) f text t

  running_follows : (final : Bool) → (is_end (End final) ≡ true → Runs W.scene (W.rest ++ m) (closing_text W.scene.shared.set W.scene.counts (End final)))
      → Follows (running_of room s b final) stage.Running s b m
  running_follows final f = by_room final (lacks_room room (length W.text)) f

  -- not the last: an end is a bad entry, which stays bad
  closing_stays : (e : Result Entry NoEntry) → entry_of W.rest ≡ e → is_end (closing_of e (length W.rest) false) ≡ true → (is_turn (entry_of (W.rest ++ m)) ≡ false) × (closing_of (entry_of (W.rest ++ m)) (length (W.rest ++ m)) true ≡ closing_of e (length W.rest) false)
  closing_stays (Ok (Setup x)) is h' =
      let same : entry_of (W.rest ++ m) ≡ Ok (Setup x) = whole_stays W.rest rest_is_bytes (ap is_whole is) m ∙ is in
      (ap is_turn same, ap (λ (z : Result Entry NoEntry). closing_of z (length (W.rest ++ m)) true) same)
  closing_stays (Err Bad) is h' =
      let same : entry_of (W.rest ++ m) ≡ Err Bad = bad_stays W.rest m (ap is_bad is) in
      (ap is_turn same, ap (λ (z : Result Entry NoEntry). closing_of z (length (W.rest ++ m)) true) same)
  closing_stays (Ok (Start x)) is h' = no h'
  closing_stays (Ok (Step who)) is h' = no h'
  closing_stays (Ok (Death who)) is h' = no h'
  closing_stays (Ok (List x)) is h' = no h'
  closing_stays (Err Cut) is h' = no h'

  pub running_more : Follows (running_of room s b false) stage.Running s b m
  running_more = running_follows false (λ (e : _). ended (closing_stays (entry_of W.rest) refl e))
    where
      ended : (is_turn (entry_of (W.rest ++ m)) ≡ false) × (closing_of (entry_of (W.rest ++ m)) (length (W.rest ++ m)) true ≡ End false) → Runs W.scene (W.rest ++ m) (closing_text W.scene.shared.set W.scene.counts (End false))
      ended (t, c) = subst (λ (z : Closing). Runs W.scene (W.rest ++ m) (closing_text W.scene.shared.set W.scene.counts z)) c (ends t)

-- the last: it ends as it stands
end_no_turn : (e : Result Entry NoEntry) (n : ℕ) → is_end (closing_of e n true) ≡ true → is_turn e ≡ false
end_no_turn (Ok (Setup x)) n h = refl
end_no_turn (Ok (Start x)) n h = no h
end_no_turn (Ok (Step who)) n h = no h
end_no_turn (Ok (Death who)) n h = no h
end_no_turn (Ok (List x)) n h = no h
end_no_turn (Err Bad) n h = refl
end_no_turn (Err Cut) n h = refl

running_last : (room : ℕ) (s : Scene) (b : list.List ℕ) → Bytes b → Follows (running_of room s b true) stage.Running s b []
running_last room s b h = running_follows room s b [] h true ended
  where
    ended : is_end (closing_of (entry_of (went_of room s b).rest) (length (went_of room s b).rest) true) ≡ true
        → Runs (went_of room s b).scene ((went_of room s b).rest ++ []) (closing_text (went_of room s b).scene.shared.set (went_of room s b).scene.counts (closing_of (entry_of (went_of room s b).rest) (length (went_of room s b).rest) true))
    ended e =
        subst
        (λ (z : list.List ℕ). Runs (went_of room s b).scene z (closing_text (went_of room s b).scene.shared.set (went_of room s b).scene.counts (closing_of (entry_of (went_of room s b).rest) (length (went_of room s b).rest) true)))
        (sym (append-nil (went_of room s b).rest)) (ends (end_no_turn (entry_of (went_of room s b).rest) (length (went_of room s b).rest) e))

-- ---- before the setup
abbrev entry_back : Result SetupEntry NoEntry → Result Entry NoEntry
entry_back (Ok e) = Ok (Setup e)
entry_back (Err why) = Err why

abbrev is_setup : Result SetupEntry NoEntry → Bool
is_setup (Ok e) = true
is_setup (Err why) = false

abbrev is_lacking : Result SetupEntry NoEntry → Bool
is_lacking (Ok e) = false
is_lacking (Err Cut) = false
is_lacking (Err Bad) = true

setup_is : (x : Result Entry NoEntry) (final : Bool) (e : SetupEntry) → opening_of x final ≡ Ok e → x ≡ Ok (Setup e)
setup_is (Ok (Setup y)) final e o = ap entry_back o
setup_is (Ok (Start y)) final e o = no (ap is_setup o)
setup_is (Ok (Step who)) final e o = no (ap is_setup o)
setup_is (Ok (Death who)) final e o = no (ap is_setup o)
setup_is (Ok (List y)) final e o = no (ap is_setup o)
setup_is (Err Bad) final e o = no (ap is_setup o)
setup_is (Err Cut) true e o = no (ap is_setup o)
setup_is (Err Cut) false e o = no (ap is_setup o)

module _ (room : ℕ) (s : Scene) (b m : list.List ℕ) (h : Bytes b) (final : Bool) where
  begins_longer : (e : SetupEntry) → entry_of b ≡ Ok (Setup e) → (text : Text) → Traces (opened_of e s).stage (opened_of e s).scene (drop (size_of b) b ++ m) text → Traces stage.Fresh s (b ++ m) ((opened_of e s).text ++ text)
  unfolding rest_of
  begins_longer e is text t =
      let whole : is_whole (entry_of b) ≡ true = ap is_whole is in
      begins {s = s} {bytes = b ++ m} {text = text} {e = e} (ap (λ (z : Result Entry NoEntry). opening_of z true) (whole_stays b h whole m ∙ is)) (rw (rest_grows b h whole m) t)

  by_opening : (o : Result SetupEntry NoEntry) → opening_of (entry_of b) final ≡ o → (is_lacking o ≡ true → opening_of (entry_of (b ++ m)) true ≡ Err Bad) → Follows (opened_piece o s (size_of b)) stage.Fresh s b m
  by_opening (Ok e) is f text t = begins_longer e (setup_is (entry_of b) final e is) text t
  by_opening (Err Cut) is f text t = t
  by_opening (Err Bad) is f text t = subst (Traces stage.Fresh s (b ++ m)) (sym (ap (λ (z : Text). line_text line.Bad ++ z) (over_none t refl) ∙ append-nil (line_text line.Bad))) (lacks {s = s} {bytes = b ++ m} (f refl))

  by_place : (l : Bool) → (is_lacking (opening_of (entry_of b) final) ≡ true → opening_of (entry_of (b ++ m)) true ≡ Err Bad)
      → Follows (cond l (piece stage.Fresh s 0 [] wants.Again) (opened_piece (opening_of (entry_of b) final) s (size_of b))) stage.Fresh s b m
  by_place true f text t = t
  by_place false f text t = by_opening (opening_of (entry_of b) final) refl f text t

  fresh_follows : (is_lacking (opening_of (entry_of b) final) ≡ true → opening_of (entry_of (b ++ m)) true ≡ Err Bad) → Follows (fresh_of room s b final) stage.Fresh s b m
  fresh_follows f = by_place (lacks_room room 0) f

lacking_stays : (b m : list.List ℕ) → Bytes b → (e : Result Entry NoEntry) → entry_of b ≡ e → is_lacking (opening_of e false) ≡ true → opening_of (entry_of (b ++ m)) true ≡ Err Bad
lacking_stays b m h (Ok (Setup x)) is l = no l
lacking_stays b m h (Ok (Start x)) is l = ap (λ (z : Result Entry NoEntry). opening_of z true) (whole_stays b h (ap is_whole is) m ∙ is)
lacking_stays b m h (Ok (Step who)) is l = ap (λ (z : Result Entry NoEntry). opening_of z true) (whole_stays b h (ap is_whole is) m ∙ is)
lacking_stays b m h (Ok (Death who)) is l = ap (λ (z : Result Entry NoEntry). opening_of z true) (whole_stays b h (ap is_whole is) m ∙ is)
lacking_stays b m h (Ok (List x)) is l = ap (λ (z : Result Entry NoEntry). opening_of z true) (whole_stays b h (ap is_whole is) m ∙ is)
lacking_stays b m h (Err Bad) is l = ap (λ (z : Result Entry NoEntry). opening_of z true) (bad_stays b m (ap is_bad is))
lacking_stays b m h (Err Cut) is l = no l

lacking_is : (o : Result SetupEntry NoEntry) → is_lacking o ≡ true → o ≡ Err Bad
lacking_is (Ok e) l = no l
lacking_is (Err Cut) l = no l
lacking_is (Err Bad) l = refl

-- ---- one call, whatever the stage
follows_more : (st : Stage) (room : ℕ) (s : Scene) (b m : list.List ℕ) → Bytes b → Follows (piece_of st room s b false) st s b m
unfolding piece_of
follows_more stage.Fresh room s b m h = fresh_follows room s b m h false (lacking_stays b m h (entry_of b) refl)
follows_more stage.Running room s b m h = running_more room s b m h
follows_more stage.Over room s b m h = λ text t. t

follows_last : (st : Stage) (room : ℕ) (s : Scene) (b : list.List ℕ) → Bytes b → Follows (piece_of st room s b true) st s b []
unfolding piece_of
follows_last stage.Fresh room s b h = fresh_follows room s b [] h true (λ (l : _). ap (λ (z : list.List ℕ). opening_of (entry_of z) true) (append-nil b) ∙ lacking_is (opening_of (entry_of b) true) l)
follows_last stage.Running room s b h = running_last room s b h
follows_last stage.Over room s b h = λ text t. t

-- the lines that the calls write are the trace of all the bytes
pub joined_traces : {st : Stage} {s : Scene} {unread coming : list.List ℕ} {text : Text} → Joined st s unread coming text → Bytes unread → Bytes coming → Traces st s (unread ++ coming) text
joined_traces over h k = rests
joined_traces (more {st} {s} {unread} {coming} {text} room new j) h k =
    let all : Bytes (unread ++ new) = bytes_both unread new h (bytes_front new coming k) in
    subst (λ (z : list.List ℕ). Traces st s z ((piece_of st room s (unread ++ new) false).text ++ text)) (append_assoc unread new coming)
    (follows_more st room s (unread ++ new) coming all text (joined_traces j (bytes_drop (piece_of st room s (unread ++ new) false).used (unread ++ new) all) (bytes_back new coming k)))
joined_traces (last {st} {s} {unread} {text} room j) h k =
    follows_last st room s unread h text (joined_traces j (bytes_drop (piece_of st room s unread true).used unread h) k)

-- ---- there is one trace
runs_same : {s : Scene} {b : list.List ℕ} {t u : Text} → Runs s b t → Runs s b u → t ≡ u
runs_same (turns {s} {bytes} {text} i r) (turns j q) = ap (λ (z : Text). told_in s bytes ++ z) (runs_same r q)
runs_same (turns i r) (ends j) = no (sym j ∙ i)
runs_same (ends i) (turns j q) = no (sym i ∙ j)
runs_same (ends i) (ends j) = refl

-- the setup that a schedule has
one_setup : (o : Result SetupEntry NoEntry) (e x : SetupEntry) → o ≡ Ok e → o ≡ Ok x → e ≡ x
one_setup o e x p q = ap (setup_back e) (sym p ∙ q)
  where
    setup_back : SetupEntry → Result SetupEntry NoEntry → SetupEntry
    setup_back d (Ok y) = y
    setup_back d (Err why) = d

pub traces_same : {st st' : Stage} {s : Scene} {b : list.List ℕ} {t u : Text} → Traces st s b t → Traces st' s b u → st ≡ st' → t ≡ u
traces_same (begins {s} {bytes} {text} {e} o r) (begins {text = text'} {e = x} p q) is =
    let same : e ≡ x = one_setup (opening_of (entry_of bytes) true) e x o p in
    let q' = subst (λ (z : SetupEntry). Traces (opened_of z s).stage (opened_of z s).scene (rest_of bytes) text') (sym same) q in
    ap (λ (z : Text). (opened_of e s).text ++ z) (traces_same r q' refl) ∙ ap (λ (z : SetupEntry). (opened_of z s).text ++ text') same
traces_same (begins o r) (lacks p) is = no (ap is_lacking (sym o ∙ p))
traces_same (begins o r) (runs q) is = no (ap is_running is)
traces_same (begins o r) rests is = no (ap is_over is)
traces_same (lacks o) (begins p q) is = no (ap is_lacking (sym p ∙ o))
traces_same (lacks o) (lacks p) is = refl
traces_same (lacks o) (runs q) is = no (ap is_running is)
traces_same (lacks o) rests is = no (ap is_over is)
traces_same (runs r) (begins p q) is = no (sym (ap is_running is))
traces_same (runs r) (lacks p) is = no (sym (ap is_running is))
traces_same (runs r) (runs q) is = runs_same r q
traces_same (runs r) rests is = no (ap is_over is)
traces_same rests (begins p q) is = no (sym (ap is_over is))
traces_same rests (lacks p) is = no (sym (ap is_over is))
traces_same rests (runs q) is = no (sym (ap is_over is))
traces_same rests rests is = refl

-- however the bytes are cut, the lines are the same
pub however_cut : {st : Stage} {s : Scene} {unread coming : list.List ℕ} {t u : Text} → Bytes unread → Bytes coming → Joined st s unread coming t → Joined st s unread coming u → t ≡ u
however_cut h k j i = traces_same (joined_traces j h k) (joined_traces i h k) refl
