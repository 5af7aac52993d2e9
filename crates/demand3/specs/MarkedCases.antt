-- THE MARKED CASES of 01, 1 to 10, together: a list of what the definitions give beside what 01 wants.
use Rattle.std.specs.Prelude.{ℕ, ◌-◌, ◌≡◌, true, List, [], ◌∷◌, ◌++◌, replicate, set, length, drop}
use Rattle.times.specs.Codes.{nanos_of}
use Rattle.readiness.specs.declared.Slot.{Slot}
use Rattle.readiness.specs.declared.Setup.{Setup}
use Rattle.readiness.specs.Blank.{blank_dev, blank_slot}
use Rattle.readiness.specs.Fields.{with_clock}
use Rattle.readiness.specs.Status.{ready}
use Rattle.trace.specs.Bench.{plain}
use Rattle.records.specs.State.{State, state}
use Rattle.records.specs.Device.{device}
use Rattle.demand3.specs.Held.{Held, held, state_of}
use Rattle.demand3.specs.SettingUp.{sets_up}

-- what the definitions give, and what 01 wants
pub record Case : Type 0 where
  pub got : List ℕ
  pub wanted : List ℕ

abbrev pub gots : List Case → List (List ℕ)
gots [] = []
gots (c ∷ cs) = c.got ∷ gots cs

abbrev pub wants : List Case → List (List ℕ)
wants [] = []
wants (c ∷ cs) = c.wanted ∷ wants cs

-- ---- The card: one slot, B = 1, port ID 0008h, these four codes, sends FRS; default word 0 is 56781234h, FLR capable; a queue of 1
abbrev pub card : (reset dl_up flr d3hot : ℕ) → Setup
card reset dl_up flr d3hot =
    let slot : Slot = record { reset = record { 0 = reset }; dl_up = record { 0 = dl_up }; flr = record { 0 = flr }; d3hot = record { 0 = d3hot }; sends_frs = true } in
    record { slots = 1; entries = slot ∷ replicate 31 blank_slot; bus = 1; port_id = 8 }

abbrev pub setup : Setup
setup = card 0x000 0x00A 0x005 0x000

abbrev pub defaults : List ℕ
defaults = set (set (replicate 64 0) 0 0x56781234) 0x1D 0x10000000

-- lent to set-up: anything of these lengths
abbrev pub lent : Held
lent = held (record { dev = blank_dev; carried = replicate 16 9; carried_len = 16; broken = true }) (ready ∷ []) (replicate 64 7) (9 ∷ [])

-- set-up's number
abbrev pub number : Setup → ℕ
number s = (sets_up s defaults lent).number

-- the state that set-up leaves, and the same at another clock
abbrev pub start : State
start = state_of (sets_up setup defaults lent).held

abbrev pub start_at : ℕ → State
start_at clock = state (with_clock start.port (record { 0 = clock })) start.statuses start.live start.cells

-- ---- The plain bench's answers to a trace, and its answer to the last record
abbrev pub answers : State → List ℕ → List ℕ
answers s trace = (plain (device setup defaults) s trace).answers

abbrev pub last : List ℕ → List ℕ
last bytes = drop (length bytes - 8) bytes

abbrev pub last_answer : List ℕ → List ℕ
last_answer trace = last (answers start trace)

-- ---- Records
abbrev pub link_up : List ℕ
link_up = 0x05 ∷ []

abbrev pub advance : ℕ → List ℕ
advance n = 0x01 ∷ n ∷ 0 ∷ 0 ∷ 0 ∷ []

abbrev pub read_word_at : (word enables : ℕ) → List ℕ
read_word_at word enables = 0x02 ∷ 0 ∷ word ∷ enables ∷ []

-- link up, and the slot Ready
abbrev pub ready_slot : List ℕ
ready_slot = link_up ++ advance 10

-- a write of 8000h to 78h, byte 1 enabled, and the FLR Time after it
abbrev pub flr : List ℕ
flr = 0x03 ∷ 0 ∷ 0x1E ∷ 0x02 ∷ 0x00 ∷ 0x80 ∷ 0 ∷ 0 ∷ advance 5

-- a message: an FRS of the function ID 0100h + slot, with this reason
abbrev pub frs : (slot reason : ℕ) → List ℕ
frs slot reason = 0x04 ∷ 0x30 ∷ 0 ∷ 0 ∷ 0 ∷ 1 ∷ slot ∷ 0 ∷ 0x7F ∷ 0 ∷ 0 ∷ 0x00 ∷ 0x01 ∷ 0x09 ∷ 0 ∷ 0 ∷ reason ∷ []

-- 1. A1Eh is allowed, A1Fh refused: each of the four codes
abbrev pub case1 : Case
case1 =
    record {
      got = number (card 0xA1E 0xA1E 0xA1E 0xA1E) ∷ number (card 0xA1F 0 0 0) ∷ number (card 0 0xA1F 0 0) ∷ number (card 0 0 0xA1F 0) ∷ number (card 0 0 0 0xA1F) ∷ [];
      wanted = 0 ∷ 3 ∷ 3 ∷ 3 ∷ 3 ∷ [];
    }

-- 2. 220h is 1,024 ns
abbrev pub case2 : Case
case2 = record { got = (nanos_of (record { 0 = 0x220 })).0 ∷ []; wanted = 1024 ∷ [] }

-- 3. FLR keeps Max_Payload_Size written in the same write: 8020h to 78h, and a read of it afterwards
abbrev pub case3 : Case
case3 =
    record {
      got = last_answer (ready_slot ++ 0x03 ∷ 0 ∷ 0x1E ∷ 0x03 ∷ 0x20 ∷ 0x80 ∷ 0 ∷ 0 ∷ advance 5 ++ read_word_at 0x1E 0xF);
      wanted = 0 ∷ 0 ∷ 0 ∷ 0 ∷ 0x20 ∷ 0 ∷ 0 ∷ 0 ∷ [];
    }

-- 4. FLR resets the cache line: 10h is written to 0Ch and read, and read again after the FLR
abbrev pub cache_line : List ℕ
cache_line = ready_slot ++ 0x03 ∷ 0 ∷ 0x03 ∷ 0x01 ∷ 0x10 ∷ 0 ∷ 0 ∷ 0 ∷ []

abbrev pub case4 : Case
case4 =
    record {
      got = last_answer (cache_line ++ read_word_at 0x03 0xF) ++ last_answer (cache_line ++ flr ++ read_word_at 0x03 0xF);
      wanted = 0 ∷ 0 ∷ 0 ∷ 0 ∷ 0x10 ∷ 0 ∷ 0 ∷ 0 ∷ replicate 8 0;
    }

-- 5. PME_Status survives link down, not cold reset: hardware sets bit 15 of 44h
abbrev pub pme_status : List ℕ
pme_status = ready_slot ++ 0x0C ∷ 0 ∷ 0x11 ∷ 0x00 ∷ 0x80 ∷ 0 ∷ 0 ∷ []

abbrev pub case5 : Case
case5 =
    record {
      got = last_answer (pme_status ++ 0x06 ∷ ready_slot ++ read_word_at 0x11 0xF) ++ last_answer (pme_status ++ 0x07 ∷ ready_slot ++ read_word_at 0x11 0xF);
      wanted = 0 ∷ 0 ∷ 0 ∷ 0 ∷ 0x00 ∷ 0x80 ∷ 0 ∷ 0 ∷ replicate 8 0;
    }

-- 6. Queue of 1, two FRS, FRS interrupt enabled: the first stays, the second is dropped; the register shows the first
abbrev pub case6 : Case
case6 =
    record {
      got = answers start (0x0B ∷ 0x02 ∷ link_up ++ frs 0 3 ++ frs 1 2 ++ 0x08 ∷ []);
      wanted = replicate 16 0 ++ 0 ∷ 1 ∷ 1 ∷ 0 ∷ 0 ∷ 0 ∷ 0 ∷ 0 ∷ 0 ∷ 2 ∷ 0 ∷ 1 ∷ 0 ∷ 0 ∷ 0 ∷ 0 ∷ 0 ∷ 0 ∷ 0 ∷ 0 ∷ 0x00 ∷ 0x01 ∷ 0x13 ∷ 0x00 ∷ [];
    }

-- 7. Received stays after removal: the queue is empty then
abbrev pub case7 : Case
case7 =
    record {
      got = last_answer (link_up ++ frs 0 3 ++ 0x09 ∷ 0x08 ∷ []) ++ last_answer (link_up ++ frs 0 3 ++ 0x09 ∷ 0x0D ∷ []);
      wanted = replicate 8 0 ++ 0 ∷ 0 ∷ 0 ∷ 0 ∷ 1 ∷ 0 ∷ 0 ∷ 0 ∷ [];
    }

-- 8. Enables 3 at word 0 under CRS give 00000001h
abbrev pub case8 : Case
case8 = record { got = last_answer (0x0B ∷ 0x01 ∷ link_up ++ read_word_at 0 0x3); wanted = 0x10 ∷ 0 ∷ 0 ∷ 0 ∷ 1 ∷ 0 ∷ 0 ∷ 0 ∷ [] }

-- 9. Clock 10^15 − 1 plus 1 is done, plus 2 gives 22: the answers, and the clock after each
abbrev pub near_end : State
near_end = start_at 999999999999999

abbrev pub case9 : Case
case9 =
    record {
      got =
          answers near_end (advance 1) ++ answers near_end (advance 2)
          ++ (plain (device setup defaults) near_end (advance 1)).state.port.clock.0 ∷ (plain (device setup defaults) near_end (advance 2)).state.port.clock.0 ∷ [];
      wanted = replicate 8 0 ++ 22 ∷ 0 ∷ 0 ∷ 0 ∷ 0 ∷ 0 ∷ 0 ∷ 0 ∷ 1000000000000000 ∷ 999999999999999 ∷ [];
    }

-- 10. 01's trace
abbrev pub case10 : Case
case10 =
    record {
      got =
          answers start
          (0x0B ∷ 0x03 ∷ 0x05
          ∷ 0x02 ∷ 0x00 ∷ 0x00 ∷ 0x0F
          ∷ 0x01 ∷ 0x0A ∷ 0x00 ∷ 0x00 ∷ 0x00
          ∷ 0x02 ∷ 0x00 ∷ 0x00 ∷ 0x0F
          ∷ 0x03 ∷ 0x00 ∷ 0x1E ∷ 0x02 ∷ 0x00 ∷ 0x80 ∷ 0x00 ∷ 0x00
          ∷ 0x02 ∷ 0x00 ∷ 0x00 ∷ 0x0F
          ∷ 0x01 ∷ 0x05 ∷ 0x00 ∷ 0x00 ∷ 0x00
          ∷ 0x08
          ∷ []);
      wanted =
          replicate 8 0 ++ replicate 8 0
          ++ 0x10 ∷ 0x00 ∷ 0x00 ∷ 0x00 ∷ 0x01 ∷ 0x00 ∷ 0xFF ∷ 0xFF
          ∷ replicate 8 0
          ++ 0x00 ∷ 0x00 ∷ 0x00 ∷ 0x00 ∷ 0x34 ∷ 0x12 ∷ 0x78 ∷ 0x56
          ∷ replicate 8 0
          ++ 0x12 ∷ 0x00 ∷ 0x00 ∷ 0x00 ∷ 0xFF ∷ 0xFF ∷ 0xFF ∷ 0xFF
          ∷ 0x00 ∷ 0x01 ∷ 0x01 ∷ 0x00 ∷ 0x00 ∷ 0x00 ∷ 0x00 ∷ 0x00
          ∷ 0x00 ∷ 0x00 ∷ 0x00 ∷ 0x00 ∷ 0x00 ∷ 0x01 ∷ 0x13 ∷ 0x00
          ∷ [];
    }

abbrev pub cases : List Case
cases = case1 ∷ case2 ∷ case3 ∷ case4 ∷ case5 ∷ case6 ∷ case7 ∷ case8 ∷ case9 ∷ case10 ∷ []

-- THE STATEMENT: in all ten the definitions give what 01 wants
abbrev pub MarkedCases : Type 0
MarkedCases = gots cases ≡ wants cases
