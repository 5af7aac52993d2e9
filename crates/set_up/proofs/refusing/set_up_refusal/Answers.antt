-- `set_up::refusing::set_up_refusal` meets its contract: the tests in their order.
use mathlib.Core.Path.{◌≡◌, sym, ◌∙◌}
use mathlib.Core.Bool.{true}
use lib.ListN.{length}
use Rattle.demand3.specs.Refusals.{lengths_fit, queue_fits, all_codes_allowed}
use Rattle.demand3.specs.GivenForNo.{Fits}
use Rattle.demand3.proofs.Refusals.{fits_of, refused_1, refused_2, refused_3, refused_4, refused_not}
use Rattle.set_up.proofs.refusing.set_up_refusal.Goals as goal

pub returns-then-not-lengths_fit : goal.returns-then-not-lengths_fit
returns-then-not-lengths_fit c = refused_1 _ _ _ _ _ (sym c.lengths_fit.ensures ∙ c.if-not-lengths_fit.true)

pub returns-then-not-queue_fits : goal.returns-then-not-queue_fits
returns-then-not-queue_fits c =
    let lengths : (let a = c.args in lengths_fit a.setup.slots a.lent a.live (length a.defaults.now) ≡ true) = sym c.lengths_fit.ensures ∙ c.if-not-lengths_fit.false in
    refused_2 _ _ _ _ _ (lengths) (sym c.queue_fits.ensures ∙ c.if-not-queue_fits.true)

pub all_codes_allowed-requires : goal.all_codes_allowed-requires
all_codes_allowed-requires c =
    let lengths : (let a = c.args in lengths_fit a.setup.slots a.lent a.live (length a.defaults.now) ≡ true) = sym c.lengths_fit.ensures ∙ c.if-not-lengths_fit.false in
    let fits : (let a = c.args in Fits a.setup.slots a.lent a.live (length a.defaults.now)) = fits_of _ _ _ _ (lengths) in
    (fits).most

pub returns-then-not-all_codes_allowed : goal.returns-then-not-all_codes_allowed
returns-then-not-all_codes_allowed c =
    let lengths : (let a = c.args in lengths_fit a.setup.slots a.lent a.live (length a.defaults.now) ≡ true) = sym c.lengths_fit.ensures ∙ c.if-not-lengths_fit.false in
    let queue : queue_fits c.args.cells ≡ true = sym c.queue_fits.ensures ∙ c.if-not-queue_fits.false in
    refused_3 _ _ _ _ _ (lengths) (queue) (sym c.all_codes_allowed.ensures ∙ c.if-not-all_codes_allowed.true)

pub all_defaults_allowed-requires : goal.all_defaults_allowed-requires
all_defaults_allowed-requires c =
    let lengths : (let a = c.args in lengths_fit a.setup.slots a.lent a.live (length a.defaults.now) ≡ true) = sym c.lengths_fit.ensures ∙ c.if-not-lengths_fit.false in
    let fits : (let a = c.args in Fits a.setup.slots a.lent a.live (length a.defaults.now)) = fits_of _ _ _ _ (lengths) in
    let f = fits in (f.most, f.default_words)

pub returns-then-not-all_defaults_allowed : goal.returns-then-not-all_defaults_allowed
returns-then-not-all_defaults_allowed c =
    let lengths : (let a = c.args in lengths_fit a.setup.slots a.lent a.live (length a.defaults.now) ≡ true) = sym c.lengths_fit.ensures ∙ c.if-not-lengths_fit.false in
    let queue : queue_fits c.args.cells ≡ true = sym c.queue_fits.ensures ∙ c.if-not-queue_fits.false in
    let codes : all_codes_allowed c.args.setup ≡ true = sym c.all_codes_allowed.ensures ∙ c.if-not-all_codes_allowed.false in
    let d = c in
    refused_4 _ _ _ _ _ (lengths) (queue) (codes) (sym c.all_defaults_allowed.ensures ∙ c.if-not-all_defaults_allowed.true)

pub returns : goal.returns
returns c =
    let lengths : (let a = c.args in lengths_fit a.setup.slots a.lent a.live (length a.defaults.now) ≡ true) = sym c.lengths_fit.ensures ∙ c.if-not-lengths_fit.false in
    let queue : queue_fits c.args.cells ≡ true = sym c.queue_fits.ensures ∙ c.if-not-queue_fits.false in
    let codes : all_codes_allowed c.args.setup ≡ true = sym c.all_codes_allowed.ensures ∙ c.if-not-all_codes_allowed.false in
    let d = c in
    refused_not _ _ _ _ _ (record {
      lengths = lengths;
      queue = queue;
      codes = codes;
      defaults_fit = sym c.all_defaults_allowed.ensures ∙ c.if-not-all_defaults_allowed.false;
    })
