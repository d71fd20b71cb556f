-- The line of a setup, made of its parts. Assumes nothing.
use Rattle.std.proofs.Common.{◌≡◌, List, refl, ap, ◌∙◌}
use Prim.Native.Nat.{ℕ}
use Rattle.calls.specs.declared.SetKind.{SetKind}
use Rattle.thread_records.specs.declared.Record.{Record}
use Rattle.thread_records.specs.Records.{empty_list, idle_record}
use Rattle.dock.specs.declared.Work.TheVariants as work
use Rattle.dock.specs.declared.Worked as by_value
use Rattle.dock.specs.Works.{Worked}
use Rattle.any_dock.specs.declared.AnySet.{AnySet}
use Rattle.any_dock.specs.Any.{AnyShared, any_shared, any_left, any_work_of}
use Rattle.schedule.specs.declared.SetupEntry.{SetupEntry}
use Rattle.trace_text.specs.declared.Line.{Line}
use Rattle.trace_text.specs.Lines.{line_text}
use Rattle.trace_lines.specs.Setups.{kind_of, setup_line, ready_of, opened_by}

module _ (set : AnySet) (e : SetupEntry) (s : AnyShared) (t : Record) (w : by_value.Worked) (after : AnySet) (slots custody cells : List ℕ)
    (idle : t ≡ idle_record empty_list)
    (done : any_left w after slots custody cells ≡ any_work_of e.records (work.Setup e.capacity) (any_shared set s.slots s.custody s.cells) t) where
  ready : any_left w after slots custody cells ≡ ready_of set e s
  unfolding ready_of
  ready = done ∙ rw idle refl

  pub line_readied : (k : SetKind) (l : Line) → k ≡ kind_of set → l ≡ setup_line e k w.report.progress → line_text l ≡ (opened_by e (kind_of set) (ready_of set e s)).text
  line_readied k l ek el =
      ap line_text (el ∙ ap (λ (q : SetKind). setup_line e q w.report.progress) ek) ∙ ap (λ (u : Worked AnyShared). line_text (setup_line e (kind_of set) u.report.progress)) ready
