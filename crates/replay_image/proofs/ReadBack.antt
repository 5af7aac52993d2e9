-- What is read from a replay image that was written: the state of the replay.
use Prim.Native.Nat.{ℕ, ◌+◌, ◌%◌, ◌<◌}
use mathlib.Core.Path.{◌≡◌, refl, ap, sym, ◌∙◌}
use mathlib.Core.Bool.{Bool, true, false, cond}
use mathlib.Core.List.{List, [], ◌∷◌, ◌++◌}
use native.Mathlib.Omega.{arith}
use lib.Dec.{leb, eqb}
use lib.ListN.{length, set, length-append}
use lib.Seq.{sets}
use Rattle.std.specs.Prelude.{None, Some, is_some}
use Rattle.bits.specs.Bits.{one}
use Rattle.bits.specs.Lists.{listed}
use Rattle.bits.proofs.Bits.{is_one}
use Rattle.ticks.specs.declared.Stamp.{Stamp}
use Rattle.trace.specs.Format.{when◌then◌else◌}
use Rattle.capture.specs.declared.Replay.{Replay}
use Rattle.capture.specs.Advances.{Earlier}
use Rattle.capture.specs.Lent.{earlier_of, progress_in, stamp_or0, replay_of}
use Rattle.state_layout.specs.Numbers.{low_first, number_at}
use Rattle.state_layout.specs.Image.{up_to}
use Rattle.state_layout.specs.Reading.{bytes_from}
use Rattle.state_layout.proofs.Numbers.{room, number-low}
use Rattle.state_layout.proofs.Stores.{sets-next}
use Rattle.state_layout.proofs.ReadBack.{length_up_to}
use Rattle.replay_image.specs.Image.{number_or0, earlier_number, replay_bytes, is_good, replay_in}
use Rattle.replay_image.proofs.Stamps.{shown_at, four-shown, up_to_again, take_up_to, up_to_padded}

-- the bytes, with these as the stamp's
abbrev with_stamp : Replay → List ℕ → List ℕ
with_stamp r u = one (is_some (earlier_of r)) ∷ low_first 4 (earlier_number r) ++ low_first 1 r.stamp_len ++ u ++ r.answered ∷ r.ended ∷ []

-- ---- 12 bytes, and how they are stored
pub length_replay : (r : Replay) → length r.stamp ≡ 4 → length (replay_bytes r) ≡ 12
unfolding replay_bytes low_first
length_replay r e =
    let u = up_to r.stamp_len r.stamp in omega (arith, length-append u (r.answered ∷ r.ended ∷ []), length_up_to r.stamp_len r.stamp, e)

pub replay_stores : (l : List ℕ) (r : Replay) → length r.stamp ≡ 4
    → set (set (sets (set (sets (set l 0 (one (is_some (earlier_of r)))) 1 (low_first 4 (earlier_number r))) 5 (r.stamp_len % 256)) 6 (up_to r.stamp_len r.stamp)) 10 r.answered) 11 r.ended
    ≡ sets l 0 (replay_bytes r)
unfolding replay_bytes low_first
replay_stores l r e =
    let u = up_to r.stamp_len r.stamp in
    let front = one (is_some (earlier_of r)) ∷ low_first 4 (earlier_number r) ++ low_first 1 r.stamp_len in
    let k : 10 ≡ 0 + length (front ++ u) = omega (arith, length-append front u, length_up_to r.stamp_len r.stamp, e) in
    ap (λ (x : List ℕ). set (set x 10 r.answered) 11 r.ended) (sets-next front u l 0 6 refl)
    ∙ sets-next (front ++ u) (r.answered ∷ r.ended ∷ []) l 0 10 k

-- ---- Read back
-- numbers of the layout's widths: what states of the code have, as long as the count of stamp bytes is below 256
pub record Fits (r : Replay) : Type 0 where
  pub earlier : earlier_number r < room 4
  pub count : r.stamp_len < room 1
  pub stamp : length r.stamp ≡ 4

-- the state, with 0 where it says nothing: the earlier stamp if no record was begun, and the stamp bytes past the count
abbrev pub kept : Replay → Replay
kept r =
    record {
      begun = r.begun;
      earlier = record { 0 = earlier_number r };
      stamp_len = r.stamp_len;
      stamp = up_to r.stamp_len r.stamp;
      answered = r.answered;
      ended = r.ended;
    }

stamp_again : (e : Earlier) (n : ℕ) → n ≡ number_or0 e → cond (is_some e) (Some (record { 0 = n })) None ≡ e
stamp_again None n h = refl
stamp_again (Some stamp) n h = ap (λ (m : ℕ). Some (record { 0 = m })) h

-- whether some record was begun, and the stamp of the last one
is_begun : (b : Bool) (stamp : Stamp) → is_some (when b then Some stamp else None) ≡ b
is_begun true stamp = refl
is_begun false stamp = refl

or0_number : (e : Earlier) → stamp_or0 e ≡ record { 0 = number_or0 e }
or0_number None = refl
or0_number (Some stamp) = refl

same_earlier : (b : Bool) (stamp : Stamp)
    → (when b then Some (record { 0 = number_or0 (when b then Some stamp else None) }) else None) ≡ (when b then Some stamp else None)
same_earlier true stamp = refl
same_earlier false stamp = refl

yes_or_no : (b : Bool) → leb (one b) 1 ≡ true
yes_or_no true = refl
yes_or_no false = refl

-- what was written is a good image
pub written_good : (r : Replay) (rest : List ℕ) → is_good (replay_bytes r ++ rest) ≡ true
unfolding is_good replay_bytes low_first
written_good r rest = yes_or_no (is_some (earlier_of r))

module _ (r : Replay) (rest : List ℕ) (f : Fits r) where
  abbrev count : ℕ
  count = r.stamp_len

  abbrev shown : List ℕ
  shown = shown_at count r.stamp 0 ∷ shown_at count r.stamp 1 ∷ shown_at count r.stamp 2 ∷ shown_at count r.stamp 3 ∷ []

  is_shown : shown ≡ up_to count r.stamp
  is_shown = four-shown count r.stamp f.stamp

  same_count : count % 256 ≡ count
  same_count = omega (arith, f.count)

  stamp_back : up_to (count % 256) shown ≡ up_to count r.stamp
  stamp_back = (λ i. up_to (same_count i) (is_shown i)) ∙ up_to_again count r.stamp

  -- the earlier stamp as it is read
  earlier_back : cond (eqb (one (is_some (earlier_of r))) 1) (Some (record { 0 = number_at 4 1 (replay_bytes r ++ rest) })) None ≡ earlier_of r
  unfolding replay_bytes low_first number_at bytes_from listed
  earlier_back =
      (λ j. cond (is_one (is_some (earlier_of r)) j) (Some (record { 0 = number-low 4 (earlier_number r) f.earlier j })) None)
      ∙ stamp_again (earlier_of r) (earlier_number r) refl

  -- THE STATE BACK, whatever follows it: but for what it doesn't say, which is 0
  pub replay_back : replay_in (replay_bytes r ++ rest) ≡ kept r
  unfolding replay_in replay_bytes low_first number_at bytes_from listed
  replay_back =
      ap (λ (u : List ℕ). replay_in (with_stamp r u ++ rest)) (sym is_shown)
      ∙ λ i.
      record {
        begun = (ap is_some earlier_back ∙ is_begun r.begun r.earlier) i;
        earlier = (ap stamp_or0 earlier_back ∙ or0_number (earlier_of r)) i;
        stamp_len = same_count i;
        stamp = stamp_back i;
        answered = r.answered;
        ended = r.ended;
      }

  -- it says the same
  pub progress_back : progress_in (replay_in (replay_bytes r ++ rest)) ≡ progress_in r
  progress_back =
      ap progress_in replay_back
      ∙ λ i. record { earlier = same_earlier r.begun r.earlier i; stamp = take_up_to count r.stamp i; answered = r.answered; ended = r.ended }

  pub count_back : (replay_in (replay_bytes r ++ rest)).stamp_len ≡ count
  count_back = ap (λ (x : Replay). x.stamp_len) replay_back

  -- WHAT A REPLAY CALL LEAVES IS GIVEN BACK EXACTLY
  pub left_back : r ≡ replay_of (progress_in r) → replay_in (replay_bytes r ++ rest) ≡ r
  left_back t =
      replay_back
      ∙ λ i.
      record {
        begun = r.begun;
        earlier = (sym (or0_number (earlier_of r)) ∙ sym (ap (λ (x : Replay). x.earlier) t)) i;
        stamp_len = count;
        stamp = (up_to_padded count r.stamp f.stamp ∙ sym (ap (λ (x : Replay). x.stamp) t)) i;
        answered = r.answered;
        ended = r.ended;
      }
