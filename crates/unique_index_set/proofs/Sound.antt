-- What a sound place says of the words and indices in it: its access is within the slots, its mark within the custody buffer.
-- Assumes nothing.
use Rattle.std.proofs.Common.{◌≡◌, ℕ, ◌<◌, ◌≤◌, Bool, true, cond, refl, lt_trans, lt_of_lt_of_le, arith, ltb-true, lt-ltb}
use Rattle.std.specs.Prelude.{Option, None}
use borrow.Author.Tests.{eqb-false}
use Rattle.unique_index_set_enums.specs.declared.Index.{Index}
use Rattle.unique_index_set_enums.specs.declared.RecordNumber.{RecordNumber}
use Rattle.unique_index_set_enums.specs.Kinds.{index}
use Rattle.std.proofs.lemmas.Bool.{cond_both}
use Rattle.unique_index_set_enums.proofs.Choice.{both_true, second_true}
use Rattle.head_details.specs.Word.{head_of, borrowed_of}
use Rattle.custody.specs.declared.Custody.TheVariants.{Free, Granting, Held}
use Rattle.plain_places.specs.declared.Place.{Place}
use Rattle.plain_places.specs.declared.Place.TheVariants.{AcquireLook, AcquireRead, AcquireExchange, AcquireWrite, ReleaseLook, ReleaseWrite, ReleaseExchange, BorrowedLook, LockedLook}
use Rattle.plain_places.specs.Places.{may_acquire, may_release, sound}
use Rattle.plain_calls.specs.declared.resumes.Saw.{Saw}
use Rattle.plain_calls.specs.declared.marks.Mark.{Mark}
use Rattle.unique_index_set.specs.Accesses.{access_at, within}
use Rattle.plain_calls.specs.Marks.{mark_as, release_mark, mark_at}
use Rattle.unique_index_set.specs.Custodies.{mark_within}

pub may_acquire_head : (capacity w : ℕ) → may_acquire capacity w ≡ true → head_of w < capacity
unfolding may_acquire
may_acquire_head capacity w e = ltb-true _ _ (both_true _ e).0

pub may_release_borrowed : (w : ℕ) → may_release w ≡ true → 1 ≤ borrowed_of w
unfolding may_release
may_release_borrowed w e =
    let h = eqb-false (borrowed_of w) 0 (second_true _ e).0 in
    omega arith

pub access_within : (capacity n : ℕ) (p : Place) → sound capacity p ≡ true → capacity < n → within n (access_at capacity p) ≡ true
access_within capacity n AcquireLook e h = refl
access_within capacity n (AcquireRead w) e h = lt-ltb (head_of w) n (lt_trans (may_acquire_head capacity w e) h)
access_within capacity n (AcquireExchange w value) e h = refl
access_within capacity n (AcquireWrite i) e h = lt-ltb i.0 n (lt_trans (ltb-true _ _ e) h)
access_within capacity n (ReleaseLook i m) e h = refl
access_within capacity n (ReleaseWrite i m w) e h = lt-ltb i.0 n (lt_trans (ltb-true _ _ (both_true _ e).0) h)
access_within capacity n (ReleaseExchange i m w) e h = refl
access_within capacity n BorrowedLook e h = refl
access_within capacity n LockedLook e h = refl

-- a mark of one index, or of none, by whatever test
either_within : (n : ℕ) (b : Bool) (x y : Option Mark) → mark_within n x ≡ true → mark_within n y ≡ true → mark_within n (cond b x y) ≡ true
either_within n b x y p q = cond_both b x y (λ m. mark_within n m ≡ true) (λ _. p) (λ _. q)

release_mark_within : (n : ℕ) (who : RecordNumber) (i : Index) (w : ℕ) → i.0 < n → mark_within n (release_mark who i w) ≡ true
unfolding release_mark
release_mark_within n who i w h = either_within n (may_release w) None (mark_as i (Held who)) refl (lt-ltb i.0 n h)

pub mark_within_lem : (capacity n : ℕ) (who : RecordNumber) (p : Place) (s : Saw) → sound capacity p ≡ true → capacity ≤ n → mark_within n (mark_at who p s) ≡ true
mark_within_lem capacity n who AcquireLook s e h = refl
mark_within_lem capacity n who (AcquireRead w) s e h = refl
mark_within_lem capacity n who (AcquireExchange w value) s e h =
    either_within n s.won (mark_as (index (head_of w)) (Granting who)) None (lt-ltb (head_of w) n (lt_of_lt_of_le (may_acquire_head capacity w e) h)) refl
mark_within_lem capacity n who (AcquireWrite i) s e h = lt-ltb i.0 n (lt_of_lt_of_le (ltb-true _ _ e) h)
mark_within_lem capacity n who (ReleaseLook i m) s e h = release_mark_within n who i s.word (lt_of_lt_of_le (ltb-true _ _ e) h)
mark_within_lem capacity n who (ReleaseWrite i m w) s e h = refl
mark_within_lem capacity n who (ReleaseExchange i m w) s e h =
    let l = lt_of_lt_of_le (ltb-true i.0 capacity (both_true _ e).0) h in
    either_within n s.won (mark_as i Free) (release_mark who i s.word) (lt-ltb i.0 n l) (release_mark_within n who i s.word l)
mark_within_lem capacity n who BorrowedLook s e h = refl
mark_within_lem capacity n who LockedLook s e h = refl
