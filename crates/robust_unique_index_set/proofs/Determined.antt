-- Any two results that a contract of the robust set allows are the same. Assumes nothing.
use Rattle.std.proofs.Common.{◌≡◌, ℕ, List, refl}
use Rattle.calls.specs.Runs.{Run}
use Rattle.thread_records.specs.declared.Stepped.{Stepped}
use Rattle.thread_records.specs.declared.Drained.{Drained}
use Rattle.thread_records.specs.Effects.{Effect}
use Rattle.thread_records.proofs.Determined.{determined}
use Rattle.robust_unique_index_set.specs.declared.RobustUniqueIndexSet.{RobustUniqueIndexSet}
use Rattle.robust_unique_index_set.specs.Steps.{Shared, leaves}
use Rattle.robust_unique_index_set.specs.Drains.{run_leaves}

abbrev stepped : Effect Shared → Stepped RobustUniqueIndexSet × List ℕ
stepped e = (record { set = e.shared.set; thread = e.thread; report = e.report }, e.shared.cells)

-- of setup, start and step, whose contracts are `leaves r cells ≡ e`
pub step_determined : (e : Effect Shared) (x y : Stepped RobustUniqueIndexSet × List ℕ) → leaves x.0 x.1 ≡ e → leaves y.0 y.1 ≡ e → x ≡ y
step_determined = determined (λ x. leaves x.0 x.1) stepped (λ x. refl)

abbrev drained : Run (Effect Shared) → Drained RobustUniqueIndexSet × List ℕ
drained u = (record { stepped = (stepped u.left).0; steps = u.steps }, u.left.shared.cells)

-- of drain, whose contract is `run_leaves r cells ≡ u`
pub drain_determined : (u : Run (Effect Shared)) (x y : Drained RobustUniqueIndexSet × List ℕ) → run_leaves x.0 x.1 ≡ u → run_leaves y.0 y.1 ≡ u → x ≡ y
drain_determined = determined (λ x. run_leaves x.0 x.1) drained (λ x. refl)
