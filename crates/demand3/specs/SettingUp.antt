-- Set-up (01, "Set-up, and memory lent").
use Rattle.std.specs.Prelude.{ℕ, suc, false, List, [], ◌≡◌, length, replicate}
use Rattle.trace.specs.Lent.{unless}
use Rattle.readiness.specs.declared.Setup.{Setup}
use Rattle.readiness.specs.Blank.{blank_dev, blank_control}
use Rattle.readiness.specs.Status.{down, stopped_by_reset}
use Rattle.records.specs.Blank.{blank_port}
use Rattle.demand3.specs.Held.{Held, held, carried_of}
use Rattle.demand3.specs.Refusals.{set_up_refusal}

-- live registers equal the defaults, all queue cells 0, every slot Down; clock 0, link down, nothing owed, all port bits 0, the queue empty
-- at cell 0, nothing carried or broken
unfoldable pub fresh_held : Setup → (defaults : List ℕ) → Held → Held
fresh_held setup defaults h = held blank_port (stopped_by_reset setup blank_dev h.statuses) defaults (replicate (length h.cells) 0)

-- what set-up leaves: its number, and all that is lent
pub record Prepared : Type 0 where
  pub number : ℕ
  pub held : Held

-- SET-UP: a refusal changes nothing
unfoldable pub sets_up : Setup → (defaults : List ℕ) → Held → Prepared
sets_up setup defaults h =
    unless (set_up_refusal setup defaults h) (λ n. record { number = n; held = h }) (record { number = 0; held = fresh_held setup defaults h })

-- ---- what is claimed of it
-- 01's list, part by part
pub record Fresh (setup : Setup) (defaults : List ℕ) (queue_length : ℕ) (h : Held) : Type 0 where
  pub live : h.live ≡ defaults
  pub cells : h.cells ≡ replicate queue_length 0
  pub clock : h.port.dev.clock.0 ≡ 0
  pub link : h.port.dev.link ≡ false
  pub statuses : h.statuses ≡ replicate setup.slots down
  pub owed : h.port.dev.owed ≡ false
  pub control : h.port.dev.control ≡ blank_control
  pub drs_received : h.port.dev.drs_received ≡ false
  pub received : h.port.dev.queue.received ≡ false
  pub overflow : h.port.dev.queue.overflow ≡ false
  pub depth : h.port.dev.queue.depth ≡ 0
  pub start : h.port.dev.queue.start ≡ 0
  pub carried : carried_of h.port ≡ []
  pub broken : h.port.broken ≡ false

-- WHAT A SET-UP LEAVES
pub record SetUpLeaves (setup : Setup) (defaults : List ℕ) (h : Held) : Type 0 where
  -- with 1 to 4 nothing changes
  pub refused : (n : ℕ) → set_up_refusal setup defaults h ≡ suc n → sets_up setup defaults h ≡ record { number = suc n; held = h }
  -- a set-up that isn't refused leaves all that is lent as 01 says, whatever was lent
  pub fresh : set_up_refusal setup defaults h ≡ 0 → Fresh setup defaults (length h.cells) (sets_up setup defaults h).held

-- for every set-up and all that is lent
abbrev pub EverySetUp : Type 0
EverySetUp = (setup : Setup) (defaults : List ℕ) (h : Held) → SetUpLeaves setup defaults h
