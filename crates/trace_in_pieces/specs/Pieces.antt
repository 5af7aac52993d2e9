-- A trace fed in pieces, each with the room for answers that the calls before it left.
use Rattle.std.specs.Prelude.{ℕ, zero, suc, ◌+◌, cond, ◌&&◌, List, ◌++◌, length, take, drop, replicate, eqb, ltb}
use Rattle.trace.specs.Lent.{Left, unchanged}
use Rattle.readiness.specs.declared.Setup.{Setup}
use Rattle.readiness.specs.Status.{down}
use Rattle.records.specs.Blank.{blank_port}
use Rattle.demand3.specs.Held.{Held, held, lent_of}
use Rattle.demand3.specs.SettingUp.{sets_up}
use Rattle.demand3.specs.Feeding.{feeds}

-- a blank port, every slot Down, and these live registers and queue cells
abbrev pub blank_held : Setup → (live cells : List ℕ) → Held
blank_held setup live cells = held blank_port (lent_of setup.slots (replicate 32 down)) live cells

-- how many of the bytes that are left the next piece has; a size of 0 stands for all of them
abbrev pub piece_of : (size left : ℕ) → ℕ
piece_of size left = cond (eqb size 0) left (cond (ltb left size) left size)

-- so many bytes consumed and written, and these answers, before what is left by x
abbrev pub after : (consumed written : ℕ) → List ℕ → Left Held → Left Held
after consumed written answers x =
    record { number = x.number; consumed = consumed + x.consumed; written = written + x.written; held = x.held; answers = answers ++ x.answers }

module _ (setup : Setup) (defaults : List ℕ) (size : ℕ) where
  -- at most n calls, after one that gave `number`: where that is 0 and bytes are left, a call gets the next piece of them
  unfoldable pub calls_in : ℕ → (number : ℕ) → Held → (trace answers : List ℕ) → Left Held
  calls_in zero number h trace answers = unchanged h answers number
  calls_in (suc n) number h trace answers =
      let x = feeds setup defaults h (take (piece_of size (length trace)) trace) answers in
      cond (eqb number 0 && ltb 0 (length trace))
      (after x.consumed x.written (take x.written x.answers) (calls_in n x.number x.held (drop x.consumed trace) (drop x.written x.answers)))
      (unchanged h answers number)

  -- A TRACE IN PIECES: no trace has more pieces than bytes
  unfoldable pub in_pieces : (number : ℕ) → Held → (trace answers : List ℕ) → Left Held
  in_pieces number h trace answers = calls_in (length trace) number h trace answers

  -- SET-UP AND TRACE: a set-up that is refused gets none of it
  unfoldable pub runs_on : Held → (trace answers : List ℕ) → Left Held
  runs_on h trace answers = let x = sets_up setup defaults h in in_pieces x.number x.held trace answers
