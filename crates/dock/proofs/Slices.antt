-- Steps of `Types/Kit.antt`'s calculus, for a proof that walks the code of a function that goes over a slice. No function needs one now.
--     ifs          `if c { .. return }` with no `else`, and what comes after it
--     whiles       the test of a `while`: where it holds the rest of the turn runs, and where it fails the loop is left
--     closed       a `&mut [T]` that was closed at zs, as long as the list was that it was opened at, is owned again
-- Assumes `Logic`.
use mathlib.Core.Path.{◌≡◌, sym, ap, subst}
use mathlib.Core.List.{List, [], ◌∷◌}
use mathlib.Core.Bool.{Bool, not}
use Prim.Native.Nat.{ℕ}
use seplogic.Ra.Ura.{Ura}
use lib.ListN.{length}
use lib.Dec.{T}
use mir.Syntax.{Body, Opd as Operand, Lifetime, seq, cond, skip, exit}
use mir.Val.{vbool}
use base.Logic.{ent}
use base.Fml.{Lft, GName, fobs, fbor}
use prog.Wp.{Env, Calls, Loops, after_seq, Wp, exits}
use types.Logic.{Logic, sem}
use types.Kit.{Item, ‵, ⋆, Post, post, any_q, prop, runs, Seq, ◌$◌, ◌∵◌, !, qed, fjoin, done}
use types.Run.{Opd, first, skips, jumps, branches}
use denote.RattleType.{RattleType}
use denote.Ref.{MutBor}
use denote.Shadow.{pure_i}
use denote.Slice.{slice_val, MutSlice, Room, coded_holeys, heres, mut_slice_at}
use denote.Lend.{Held}

module _ {M : Type 1} {𝓤 : Ura M} {𝓛 : Logic 𝓤} {K : Type 0} {Γ : List (Item 𝓤)} {E : Env 𝓤 𝓛.H} {C : Calls 𝓤 𝓛.H} {Λ : Loops 𝓤 𝓛.H} {q : Post 𝓤 𝓛.H} where
  open 𝓛 use {H}

  pub ifs : K → {c : Operand} {a b : Body} {y : Bool} → Opd K 𝓛 Γ E c (vbool y) → (T y → Seq K 𝓛 Γ (runs C Λ E a (any_q (after_seq 𝓤 H (Wp 𝓤 H C Λ E b (post 𝓤 H q)) (post 𝓤 H q))))) → (T (not y) → Seq K 𝓛 Γ (runs C Λ E b q))
      → Seq K 𝓛 Γ (runs C Λ E (seq (cond c a skip) b) q)
  ifs t o held failed = first t $ branches t o held (λ h. skips t $ record { prf = (failed h).prf })

  pub whiles : K → {c : Operand} {n : ℕ} {b : Body} {y : Bool} → Opd K 𝓛 Γ E c (vbool y) → (T y → Seq K 𝓛 Γ (runs C Λ E b q)) → (T (not y) → Seq K 𝓛 Γ (prop (post 𝓤 H q (exits n)))) → Seq K 𝓛 Γ (runs C Λ E (seq (cond c skip (exit n)) b) q)
  whiles t o held failed = first t $ branches t o (λ h. skips t $ record { prf = (held h).prf }) (λ h. jumps t $ record { prf = (failed h).prf })

module _ {M : Type 1} {𝓤 : Ura M} (𝓛 : Logic 𝓤) (ℓ : Lifetime) (κ : Lft) (R : RattleType) (b o : ℕ) (γ : GName) (ys zs : List R.Denot) where
  abbrev x : MutBor (List R.Denot)
  x = record { ref_ptr = (b, o); ghost_name = γ; now = zs }

  pub closed : length zs ≡ length ys → Room R (length ys)
      → ent 𝓤 (⋆ 𝓛 (‵ (fobs γ ((coded_holeys R).code (heres R zs))) ∷ ‵ (fbor κ (Held R (length zs) b o γ)) ∷ [])) (sem 𝓛 ((MutSlice ℓ κ R).own_val x (slice_val (b, o) (length ys) ∷ [])))
  closed e room =
      qed 𝓛 (‵ (fobs γ ((coded_holeys R).code (heres R zs))) ∷ ‵ (fbor κ (Held R (length zs) b o γ)) ∷ []) ∵ fjoin ! $
      pure_i ! (mut_slice_at R x (slice_val (b, o) (length ys) ∷ [])) (tt, (tt, tt)) (ap (λ (m : ℕ). slice_val (b, o) m ∷ []) (sym e), subst (Room R) (sym e) room) $ fjoin ! $ done !
