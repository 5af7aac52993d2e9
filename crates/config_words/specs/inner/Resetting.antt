-- How the code of a reset goes about it: the lent words from one index up to another, and the masks of what takes its default.
use Rattle.std.specs.Prelude.{ℕ, ◌%◌, Bool, ◌&&◌, ◌||◌, cond, eqb, leb, ltb}
use Rattle.registers.specs.declared.Kind.{Kind}
use Rattle.registers.specs.Words.{pmcsr, device_control}
use Rattle.registers.specs.inner.Masks.{link_mask, flr_mask, with_defaults}
use Rattle.config_words.specs.declared.ResetMasks.{ResetMasks}

-- from one index up to, and without, another
abbrev pub between : (from to n : ℕ) → Bool
between from to n = leb from n && ltb n to

-- the words that have bits in W or in C: 04h, 0Ch, 10h, 3Ch, 44h, 50h, 54h, 58h, 78h, 80h
abbrev pub changing : ℕ → Bool
changing i = eqb i 1 || eqb i 3 || eqb i 4 || eqb i 15 || eqb i pmcsr || eqb i 20 || eqb i 21 || eqb i 22 || eqb i device_control || eqb i 32

abbrev pub changing_between : (from to n : ℕ) → Bool
changing_between from to n = between from to n && changing (n % 64)

-- the bits of word i that take their defaults; none of a word that isn't one of those
unfoldable pub mask_in : ResetMasks → ℕ → ℕ
mask_in t i =
    cond (eqb i 1) t.command
    (cond (eqb i 3) t.cache_line
    (cond (eqb i 4) t.bar0
    (cond (eqb i 15) t.interrupt_line
    (cond (eqb i pmcsr) t.pmcsr
    (cond (eqb i 20) t.msi_control
    (cond (eqb i 21) t.msi_address
    (cond (eqb i 22) t.msi_data
    (cond (eqb i device_control) t.device_control
    (cond (eqb i 32) t.link_control 0)))))))))

-- the reset by those bits
abbrev pub by_mask : ResetMasks → (slot i live default : ℕ) → ℕ
by_mask t slot i live default = with_defaults (mask_in t i) live default

-- the masks of those words, of the mask of each word
abbrev pub all_masks : (mask : ℕ → ℕ) → ResetMasks
all_masks mask = record {
  command = mask 1;
  cache_line = mask 3;
  bar0 = mask 4;
  interrupt_line = mask 15;
  pmcsr = mask pmcsr;
  msi_control = mask 20;
  msi_address = mask 21;
  msi_data = mask 22;
  device_control = mask device_control;
  link_control = mask 32;
}

-- link down, and FLR
abbrev pub link_masks : Kind → ResetMasks
link_masks kind = all_masks (link_mask kind)

abbrev pub flr_masks : Kind → ResetMasks
flr_masks kind = all_masks (flr_mask kind)
