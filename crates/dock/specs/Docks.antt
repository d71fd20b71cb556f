-- What work does to the dock of either set.
use Rattle.turns.specs.Docks.{Dock, Turned, docked}
use Rattle.turns.specs.Docks.Dock.{plain_dock, robust_dock}
use Rattle.dock.specs.declared.Work.{Work}
use Rattle.dock.specs.Plain.{plain_works}
use Rattle.dock.specs.Robust.{robust_works}

abbrev pub work_in : Work → Dock → Turned Dock
work_in w (plain_dock d) = docked plain_dock (plain_works w d)
work_in w (robust_dock d) = docked robust_dock (robust_works w d)
