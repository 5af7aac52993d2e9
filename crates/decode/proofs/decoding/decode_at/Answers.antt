-- `decode::decoding::decode_at` meets its contract.
use native.Mathlib.Omega.{arith}
use mathlib.Core.Path.{◌≡◌, sym, ap, ◌∙◌, subst}
use mathlib.Core.List.{List}
use Prim.Native.Nat.{ℕ, ◌+◌, ◌≤◌}
use lib.ListN.{length, get_or, drop}
use Rattle.trace.specs.Format.{size_of}
use Rattle.bits.specs.Bytes.{byte_at}
use Rattle.decode.proofs.Fields.{decode_none, decode_5, decode_6, decode_7, decode_8, decode_9, decode_13, size_1, size_2, size_3, size_4, size_10, size_11, size_12, kind_at_lem, reads_1, reads_2, reads_3, reads_4, reads_10, reads_11, reads_12}
use Rattle.decode.proofs.decoding.decode_at.Goals as goal

-- all bytes of a record of this kind are there
whole : (input : List ℕ) (at : ℕ) → at + size_of (get_or input at 0) ≤ length input → (k : ℕ) → get_or input at 0 ≡ k → at + size_of k ≤ length input
whole input at h k e = subst (λ (n : ℕ). at + size_of n ≤ length input) e h

-- its first byte
kind : (input : List ℕ) (at k : ℕ) → get_or input at 0 ≡ k → byte_at (drop at input) 0 ≡ k
kind input at k e = kind_at_lem input at ∙ e

pub four_in-requires : goal.four_in-requires
four_in-requires c = omega (arith, size_1, whole c.args.input.now c.args.at c.requires.1 1 c.in-1.is)

pub request_at-requires : goal.request_at-requires
request_at-requires c = omega (arith, size_2, whole c.args.input.now c.args.at c.requires.1 2 c.in-2.is)

pub request_at-requires-in-3 : goal.request_at-requires-in-3
request_at-requires-in-3 c = omega (arith, size_3, whole c.args.input.now c.args.at c.requires.1 3 c.in-3.is)

pub four_in-requires-in-3 : goal.four_in-requires-in-3
four_in-requires-in-3 c = omega (arith, size_3, whole c.args.input.now c.args.at c.requires.1 3 c.in-3.is)

pub message_at-requires : goal.message_at-requires
message_at-requires c = omega (arith, size_4, whole c.args.input.now c.args.at c.requires.1 4 c.in-4.is)

pub bounds-input-at-in-10 : goal.bounds-input-at-in-10
bounds-input-at-in-10 c = omega (arith, size_10, whole c.args.input.now c.args.at c.requires.1 10 c.in-10.is)

pub bounds-input-at-in-11 : goal.bounds-input-at-in-11
bounds-input-at-in-11 c = omega (arith, size_11, whole c.args.input.now c.args.at c.requires.1 11 c.in-11.is)

pub bounds-input-at-in-12 : goal.bounds-input-at-in-12
bounds-input-at-in-12 c = omega (arith, size_12, whole c.args.input.now c.args.at c.requires.1 12 c.in-12.is)

pub bounds-input-at-in-12-2 : goal.bounds-input-at-in-12-2
bounds-input-at-in-12-2 c = omega (arith, size_12, whole c.args.input.now c.args.at c.requires.1 12 c.in-12.is)

pub four_in-requires-in-12 : goal.four_in-requires-in-12
four_in-requires-in-12 c = omega (arith, size_12, whole c.args.input.now c.args.at c.requires.1 12 c.in-12.is)

pub returns-in-1 : goal.returns-in-1
returns-in-1 c =
    let a = c.args in
    reads_1 a.input.now a.at c.in-1.is _ (c.nanos_of.ensures ∙ ap (λ (n : ℕ). record { 0 = n }) (c.from.ensures ∙ c.four_in.ensures))

pub returns-in-2 : goal.returns-in-2
returns-in-2 c = let a = c.args in reads_2 a.input.now a.at c.in-2.is _ c.request_at.ensures

pub returns-in-3 : goal.returns-in-3
returns-in-3 c = let a = c.args in reads_3 a.input.now a.at c.in-3.is _ c.request_at-in-3.ensures _ c.four_in-in-3.ensures

pub returns-in-4 : goal.returns-in-4
returns-in-4 c = let a = c.args in reads_4 a.input.now a.at c.in-4.is _ c.message_at.ensures

pub returns-in-5 : goal.returns-in-5
returns-in-5 c = sym (decode_5 _ (kind c.args.input.now c.args.at 5 c.in-5.is))

pub returns-in-6 : goal.returns-in-6
returns-in-6 c = sym (decode_6 _ (kind c.args.input.now c.args.at 6 c.in-6.is))

pub returns-in-7 : goal.returns-in-7
returns-in-7 c = sym (decode_7 _ (kind c.args.input.now c.args.at 7 c.in-7.is))

pub returns-in-8 : goal.returns-in-8
returns-in-8 c = sym (decode_8 _ (kind c.args.input.now c.args.at 8 c.in-8.is))

pub returns-in-9 : goal.returns-in-9
returns-in-9 c = sym (decode_9 _ (kind c.args.input.now c.args.at 9 c.in-9.is))

pub returns-in-10 : goal.returns-in-10
returns-in-10 c = let a = c.args in reads_10 a.input.now a.at c.in-10.is

pub returns-in-11 : goal.returns-in-11
returns-in-11 c = let a = c.args in reads_11 a.input.now a.at c.in-11.is

pub returns-in-12 : goal.returns-in-12
returns-in-12 c =
    let a = c.args in
    reads_12 a.input.now a.at c.in-12.is _ _ _ c.from-in-12.ensures c.from-in-12-2.ensures c.four_in-in-12.ensures

pub returns-in-13 : goal.returns-in-13
returns-in-13 c = sym (decode_13 _ (kind c.args.input.now c.args.at 13 c.in-13.is))

pub returns-in_default : goal.returns-in_default
returns-in_default c = let s = c in decode_none _ _ (kind_at_lem s.args.input.now s.args.at) (λ e. omega arith) (λ e. omega arith) (λ e. omega arith) (λ e. omega arith) (λ e. omega arith) (λ e. omega arith) (λ e. omega arith) (λ e. omega arith) (λ e. omega arith) (λ e. omega arith) (λ e. omega arith) (λ e. omega arith) (λ e. omega arith)
