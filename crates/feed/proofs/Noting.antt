-- The moments that are still to be noted, where feed's loop runs whole records.
use Prim.Native.Nat.{ℕ, ◌+◌, ◌-◌, ◌*◌, ◌≤◌}
use native.Mathlib.Omega.{arith}
use mathlib.Core.Path.{◌≡◌, refl, ap, sym, ◌∙◌}
use mathlib.Core.List.{List, [], ◌∷◌}
use lib.ListN.{length, get_or, take, drop}
use lib.Seq.{take_at, drop_at, drop-drop}
use lib.Dec.{ltb}
use borrow.Author.Tests.{le-ltb}
use Rattle.trace.specs.Format.{size_of, pad, longest, next}
use Rattle.trace.specs.Exactly.{joined_up, AllWhole}
use Rattle.trace.specs.inner.Gathered.{whole_size}
use Rattle.trace.proofs.Tests.{if_false}
use Rattle.trace.proofs.Loop.{Got, got_size, got_count}
use Rattle.trace.proofs.Fronts.{front-size, front_some, front-next}
use Rattle.readiness.specs.declared.Setup.{Setup}
use Rattle.readiness.specs.inner.Phases.{notes}
use Rattle.readiness.proofs.PhaseNumbers.{notes_append}
use Rattle.records.specs.declared.Record.{Record}
use Rattle.records.specs.State.{State}
use Rattle.records.specs.Decode.{decode}
use Rattle.records.specs.Run.{run}
use Rattle.records.specs.Device.{in_bytes, device}
use Rattle.records.specs.MadeReady.{readied, readied_in, readied_over}
use Rattle.decode.proofs.Whole.{decode_alone}

-- the call began in the state s₀, with the moments m₀, on the whole records ws
module _ (k : Setup) (defaults input : List ℕ) (room : ℕ) (s₀ : State) (ws : List (List ℕ)) (m₀ : List ℕ) where
  -- in the state s, with the moments m, `at` bytes consumed and w bytes written, the records that are left give what all of them would have given
  pub record ToNote (s : State) (m : List ℕ) (at w : ℕ) : Type 0 where
    pub records : List (List ℕ)
    pub wholes : AllWhole records
    pub rest : drop at input ≡ joined_up records
    pub space : 8 * length records ≤ room - w
    pub same : notes (readied_over k defaults s records) m ≡ notes (readied_over k defaults s₀ ws) m₀

  pub note_starts : AllWhole ws → input ≡ joined_up ws → 8 * length ws ≤ room → ToNote s₀ m₀ 0 0
  note_starts a e h = record { records = ws; wholes = a; rest = e; space = omega arith; same = refl }

  module _ (s : State) (m : List ℕ) (at w : ℕ) (v : ToNote s m at w) where
    -- A RECORD'S TURN
    pub note_turn : (size : ℕ) → Got (drop at input) size → (r : Record) → r ≡ decode (drop at input)
        → (t : State) → t ≡ (run k defaults s r).after → (m' : List ℕ) → m' ≡ notes (readied k defaults s r) m → ToNote t m' (at + size) (w + 8)
    unfolding readied_over in_bytes
    note_turn size got r d t e m' f = go v.records v.wholes v.rest v.space v.same
      where
        bs : List ℕ
        bs = drop at input

        go : (us : List (List ℕ)) → AllWhole us → bs ≡ joined_up us → 8 * length us ≤ room - w
            → notes (readied_over k defaults s us) m ≡ notes (readied_over k defaults s₀ ws) m₀ → ToNote t m' (at + size) (w + 8)
        go [] a q h z = let c = got_count bs size got in absurd (omega (arith, c.some, c.there, ap length q))
        go (u ∷ us) a q h z =
            let c = got_count bs size got in
            let n : size ≡ length u = sym (got_size bs size got) ∙ ap (λ (l : List ℕ). size_of (get_or l 0 0)) q ∙ front-size u (joined_up us) a.0 in
            let b : take size bs ≡ u = (λ i. take (n i) (q i)) ∙ take_at u (joined_up us) (length u) refl in
            let x : r ≡ decode (pad longest u) = d ∙ decode_alone bs size (got_size bs size got) c.some c.there ∙ ap (λ (l : List ℕ). decode (pad longest l)) b in
            record {
              records = us;
              wholes = a.1;
              rest = sym (drop-drop size at input) ∙ (λ i. drop (n i) (q i)) ∙ drop_at u (joined_up us) (length u) refl;
              space = omega arith;
              same =
                  (λ i. notes (readied_over k defaults ((e ∙ ap (λ (y : Record). (run k defaults s y).after) x) i) us) ((f ∙ ap (λ (y : Record). notes (readied k defaults s y) m) x) i))
                  ∙ sym (notes_append (readied_in k defaults s u) (readied_over k defaults ((device k defaults).run s u).state us) m)
                  ∙ z;
            }

    -- THE CALL'S END: none is left
    pub note_all : whole_size (room - w) (next (drop at input)) ≡ 0 → m ≡ notes (readied_over k defaults s₀ ws) m₀
    unfolding readied_over notes
    note_all none = go v.records v.wholes v.rest v.space v.same
      where
        go : (us : List (List ℕ)) → AllWhole us → drop at input ≡ joined_up us → 8 * length us ≤ room - w
            → notes (readied_over k defaults s us) m ≡ notes (readied_over k defaults s₀ ws) m₀ → m ≡ notes (readied_over k defaults s₀ ws) m₀
        go [] a q h z = z
        go (u ∷ us) a q h z =
            let e : whole_size (room - w) (next (drop at input)) ≡ length u =
            ap (λ (l : List ℕ). whole_size (room - w) (next l)) q
            ∙ ap (whole_size (room - w)) (front-next u (joined_up us) a.0)
            ∙ if_false (ltb (room - w) 8) 0 (length u) (le-ltb (room - w) 8 (omega arith)) in
            absurd (omega (arith, e, none, front_some u a.0))

-- at the head of the loop, whatever whole records the call is on
abbrev pub Notes : Setup → (defaults input : List ℕ) → (room : ℕ) → State → (moments : List ℕ) → State → (now : List ℕ) → (at w : ℕ) → Type 0
Notes k defaults input room s₀ m₀ s m at w =
    (ws : List (List ℕ)) → AllWhole ws → input ≡ joined_up ws → 8 * length ws ≤ room → ToNote k defaults input room s₀ ws m₀ s m at w
