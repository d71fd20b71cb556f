-- The bench sheet: P1 to P8 and R1 to R6 of the scope, with the scope's values. A `came` is a record's number, the answer's number and
-- value, and the steps that the call took.
use Rattle.std.specs.Prelude.{ℕ, List, [], ◌∷◌, ◌++◌}
use Rattle.unique_index_set_enums.specs.Limits.{u64_max}
use Rattle.bench_sheet.specs.Rows.{Row, Entry, Came, Left, plain_of, robust_of, with_word, starts, steps, acquires, releases, came}

abbrev pub leaves : List Came → ℕ → List ℕ → Left
leaves back word entries = record { back = back; word = word; entries = entries }

-- an acquire of 4 steps
abbrev pub acquired : ℕ → ℕ → List Entry
acquired who o = acquires who o ∷ steps who 4

-- what an empty cell holds
abbrev pub empty : ℕ
empty = u64_max

abbrev pub sheet : List Row
sheet =
    -- P1: capacity 3, fresh
    record { start = plain_of 3; turns = []; left = leaves [] 0 (1 ∷ 2 ∷ 3 ∷ 4 ∷ []) }
    -- P2: acquire, 0 in 4 steps
    ∷ record {
      start = plain_of 3;
      turns = acquired 0 0;
      left = leaves (came 0 0 0 4 ∷ []) 0x0000_0100_0100_0001 (4 ∷ 2 ∷ 3 ∷ 4 ∷ []);
    }
    -- P4: P2, release 0 in mode 1: value 1; acquire then answers 2, borrowed 0
    ∷ record {
      start = plain_of 3;
      turns = acquired 0 0 ++ (releases 0 0 0 1 ∷ steps 0 3 ++ (acquires 0 0 ∷ steps 0 1 ++ (starts 0 3 0 0 0 ∷ steps 0 1)));
      left = leaves (came 0 0 0 4 ∷ came 0 0 1 3 ∷ came 0 2 0 1 ∷ came 0 0 0 1 ∷ []) 0x0000_0000_02FF_FFFF (1 ∷ 2 ∷ 3 ∷ 4 ∷ []);
    }
    -- P5: capacity 1, two acquires: 0, then answer 1 after one step
    ∷ record {
      start = plain_of 1;
      turns = acquired 0 0 ++ (acquires 0 0 ∷ steps 0 1);
      left = leaves (came 0 0 0 4 ∷ came 0 1 0 1 ∷ []) 0x0000_0100_0100_0001 (2 ∷ 2 ∷ []);
    }
    -- P6: the word 000000FFFF000000 over P1's slots, acquire
    ∷ record {
      start = with_word 0x0000_00FF_FF00_0000 (plain_of 3);
      turns = acquired 0 0;
      left = leaves (came 0 0 0 4 ∷ []) 0x0000_0100_0000_0001 (4 ∷ 2 ∷ 3 ∷ 4 ∷ []);
    }
    -- P8: capacity 2: record 0 looks and reads; record 1 acquires 0; record 0 gets 1 after 6 steps in all
    ∷ record {
      start = plain_of 2;
      turns = acquires 0 0 ∷ steps 0 2 ++ (acquired 1 0 ++ steps 0 4);
      left = leaves (came 1 0 0 4 ∷ came 0 0 1 6 ∷ []) 0x0000_0200_0200_0002 (3 ∷ 3 ∷ 3 ∷ []);
    }
    -- R1: capacity 2, owner 313: index 0 in 4 steps, generation 1
    ∷ record { start = robust_of 2; turns = acquired 0 313; left = leaves (came 0 0 0 4 ∷ []) 1 (313 ∷ empty ∷ []) }
    -- R2: R1, release 0 by owner 314: 6 after one step, generation 1
    ∷ record {
      start = robust_of 2;
      turns = acquired 0 313 ++ (releases 0 0 314 0 ∷ steps 0 1);
      left = leaves (came 0 0 0 4 ∷ came 0 6 0 1 ∷ []) 1 (313 ∷ empty ∷ []);
    }
    -- R3: capacity 1, one held, release in mode 1: Locked in 9 steps
    ∷ record {
      start = robust_of 1;
      turns = acquired 0 7 ++ (releases 0 0 7 1 ∷ steps 0 9);
      left = leaves (came 0 0 0 4 ∷ came 0 0 1 9 ∷ []) u64_max (empty ∷ []);
    }
    -- R5: capacity 2, owner 7 holds 0; owner 8 looks and fails cell 0; 7's mode 1 release counts zero and bumps; 8 wins cell 1; 7 locks; 8 gets 2
    -- and cell 1 still says 8
    ∷ record {
      start = robust_of 2;
      turns =
          acquired 0 7
          ++ (acquires 1 8 ∷ steps 1 2
          ++ (releases 0 0 7 1 ∷ steps 0 9
          ++ (steps 1 1
          ++ (steps 0 1 ++ steps 1 1))));
      left = leaves (came 0 0 0 4 ∷ came 0 0 1 10 ∷ came 1 2 0 4 ∷ []) u64_max (empty ∷ 8 ∷ []);
    }
    -- R6: capacity 2, owner 7 holds 0: A and C look and fail cell 0; 7's release empties it, no bump yet; C wins cell 1; A answers 1, never full
    ∷ record {
      start = robust_of 2;
      turns =
          acquired 0 7
          ++ (acquires 1 8 ∷ steps 1 2
          ++ (acquires 2 9 ∷ steps 2 2
          ++ (releases 0 0 7 0 ∷ steps 0 1
          ++ (steps 2 1 ++ steps 1 2))));
      left = leaves (came 0 0 0 4 ∷ came 1 1 0 4 ∷ []) 1 (empty ∷ 9 ∷ []);
    }
    ∷ []
