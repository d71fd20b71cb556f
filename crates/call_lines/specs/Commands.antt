-- The letters of calls, as the programs of limits have them.
use Rattle.std.specs.Prelude.{ℕ, cond, ◌==◌, Result, Ok, Err}
use Rattle.call_lines.specs.declared.Command.{Command}
use Rattle.call_lines.specs.declared.Command.TheVariants.{Setup, Start, Step, Drain, Death, List}
use Rattle.call_lines.specs.declared.UnknownLetter.{UnknownLetter}

-- s b t d k l
abbrev pub command_read : ℕ → Result Command UnknownLetter
command_read n =
    cond (n == 115) (Ok Setup)
    (cond (n == 98) (Ok Start)
    (cond (n == 116) (Ok Step)
    (cond (n == 100) (Ok Drain)
    (cond (n == 107) (Ok Death)
    (cond (n == 108) (Ok List)
    (Err (record { 0 = n })))))))
