-- The words of a trace, in ASCII.
use Rattle.std.specs.Prelude.{ℕ, List, codes}

abbrev pub space : List ℕ
space = codes " "

abbrev pub newline : List ℕ
newline = codes "\n"

abbrev pub set_plain : List ℕ
set_plain = codes "set plain "

abbrev pub set_robust : List ℕ
set_robust = codes "set robust "

abbrev pub refused_word : List ℕ
refused_word = codes "refused "

abbrev pub bad_line : List ℕ
bad_line = codes "refused 12\n"

abbrev pub begins : List ℕ
begins = codes " begin\n"

abbrev pub lists : List ℕ
lists = codes " list\n"

abbrev pub steps : List ℕ
steps = codes " step\n"

abbrev pub dies : List ℕ
dies = codes " dead\n"

abbrev pub is_bad : List ℕ
is_bad = codes " refused 12\n"

abbrev pub done : List ℕ
done = codes " done "

abbrev pub is_refused : List ℕ
is_refused = codes " refused "

abbrev pub found : List ℕ
found = codes " found "

abbrev pub freed : List ℕ
freed = codes " freed "

abbrev pub ends : List ℕ
ends = codes "end "
