-- Any two results that a contract of the plain set allows are the same. Assumes nothing.
use Rattle.std.proofs.Common.{◌≡◌, ℕ, List, refl}
use Rattle.calls.specs.Runs.{Run}
use Rattle.thread_records.specs.declared.Stepped.{Stepped}
use Rattle.thread_records.specs.declared.Drained.{Drained}
use Rattle.thread_records.specs.Effects.{Effect}
use Rattle.thread_records.proofs.Determined.{determined}
use Rattle.unique_index_set.specs.declared.UniqueIndexSet.{UniqueIndexSet}
use Rattle.unique_index_set.specs.Steps.{Shared, leaves}
use Rattle.unique_index_set.specs.Drains.{run_leaves}

abbrev stepped : Effect Shared → Stepped UniqueIndexSet × List ℕ × List ℕ
stepped e = (record { set = e.shared.set; thread = e.thread; report = e.report }, e.shared.slots, e.shared.custody)

-- of setup, start and step, whose contracts are `leaves r slots custody ≡ e`
pub step_determined : (e : Effect Shared) (x y : Stepped UniqueIndexSet × List ℕ × List ℕ) → leaves x.0 x.1 x.2 ≡ e → leaves y.0 y.1 y.2 ≡ e → x ≡ y
step_determined = determined (λ x. leaves x.0 x.1 x.2) stepped (λ x. refl)

abbrev drained : Run (Effect Shared) → Drained UniqueIndexSet × List ℕ × List ℕ
drained u = (record { stepped = (stepped u.left).0; steps = u.steps }, u.left.shared.slots, u.left.shared.custody)

-- of drain, whose contract is `run_leaves r slots custody ≡ u`
pub drain_determined : (u : Run (Effect Shared)) (x y : Drained UniqueIndexSet × List ℕ × List ℕ) → run_leaves x.0 x.1 x.2 ≡ u → run_leaves y.0 y.1 y.2 ≡ u → x ≡ y
drain_determined = determined (λ x. run_leaves x.0 x.1 x.2) drained (λ x. refl)
