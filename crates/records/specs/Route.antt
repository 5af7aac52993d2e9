-- Where a configuration request goes (01, "Numbers given for no", statuses 16 to 18, 20, 21 and 24).
use Rattle.std.specs.Prelude.{ℕ, Bool, true, false, not, ◌&&◌, ◌||◌, cond, eqb, ltb}
use Rattle.bits.specs.Bits.{bit, word, enabled}
use Rattle.registers.specs.declared.Kind.{Kind}
use Rattle.registers.specs.Words.{lane_mask}
use Rattle.times.specs.declared.Nanos.{Nanos}
use Rattle.readiness.specs.declared.Cause.{Cause}
use Rattle.readiness.specs.declared.Cause.TheVariants.{LinkUp, Flr, D3hot}
use Rattle.readiness.specs.declared.Phase.{Phase}
use Rattle.readiness.specs.declared.Phase.TheVariants.{Down, Pending, Ready}
use Rattle.readiness.specs.declared.Status.{Status}
use Rattle.readiness.specs.declared.Dev.{Dev}
use Rattle.records.specs.declared.Request.{Request}
use Rattle.records.specs.declared.Completion.{Completion}
use Rattle.records.specs.declared.Completion.TheVariants as completion
use Rattle.records.specs.declared.Crs.{Crs}
use Rattle.records.specs.declared.Crs.TheVariants.{Shown, VisibilityOff, NotVendorId}
use Rattle.records.specs.declared.Route.{Route}
use Rattle.records.specs.declared.Route.TheVariants as route

-- a read of word 0 with enables 0 and 1
unfoldable pub reads_vendor_id : (is_read : Bool) → Request → Bool
reads_vendor_id is_read q = is_read && eqb q.word 0 && bit q.enables 0 && bit q.enables 1

-- CRS at the root: shown with visibility on and a read of the whole vendor ID; any other is to be re-issued
unfoldable pub crs_of : (visibility is_read : Bool) → Request → Crs
crs_of visibility is_read q = cond visibility (cond (reads_vendor_id is_read q) Shown NotVendorId) VisibilityOff

-- FLR in progress; else the slot is starting
unfoldable pub pending_route : Nanos → Cause → Nanos → Crs → Route
pending_route clock LinkUp t crs = route.Starting LinkUp t crs
pending_route clock D3hot t crs = route.Starting D3hot t crs
pending_route clock (Flr end) t crs = cond (ltb clock.0 end.0) (route.FlrInProgress end) (route.Starting (Flr end) t crs)

-- by the slot's status, with the link up
unfoldable pub phase_route : Nanos → Phase → Crs → Route
phase_route clock Down crs = route.LinkDown
phase_route clock Ready crs = route.Access
phase_route clock (Pending cause t) crs = pending_route clock cause t crs

-- order: 20, 21, 24, 18, then 16 or 17; the same for every kind of slot
unfoldable pub route_of : (slots : ℕ) → Kind → Dev → Status → (is_read : Bool) → Request → Route
route_of slots kind dev status is_read q =
    cond (not (ltb q.slot slots)) route.NoSlot
    (cond (ltb 63 q.word) route.NoWord
    (cond (ltb 15 q.enables) route.BadEnables
    (cond (not dev.link) route.LinkDown
    (phase_route dev.clock status.phase (crs_of dev.control.visibility is_read q)))))

abbrev pub crs_completion : Crs → Completion
crs_completion Shown = completion.CrsShown
crs_completion VisibilityOff = completion.CrsRetry
crs_completion NotVendorId = completion.CrsRetry

-- the status of each route
abbrev pub route_completion : Route → Completion
route_completion route.NoSlot = completion.NoSlot
route_completion route.NoWord = completion.NoWord
route_completion route.BadEnables = completion.BadValue
route_completion route.LinkDown = completion.Unsupported
route_completion (route.FlrInProgress end) = completion.Unsupported
route_completion (route.Starting cause t crs) = crs_completion crs
route_completion route.Access = completion.Done

-- CRS shown: vendor bytes 0001h, other enabled bytes FFh
unfoldable pub crs_data : (enables : ℕ) → ℕ
crs_data enables = word λ k. enabled enables k && (eqb k 0 || ltb 15 k)

abbrev pub shown_data : (enables : ℕ) → Crs → ℕ
shown_data enables Shown = crs_data enables
shown_data enables VisibilityOff = 0
shown_data enables NotVendorId = 0

-- the data of a read that isn't done (so the last line is never asked): with 18, FFh in enabled bytes
abbrev pub read_data : (enables : ℕ) → Route → ℕ
read_data enables route.NoSlot = 0
read_data enables route.NoWord = 0
read_data enables route.BadEnables = 0
read_data enables route.LinkDown = lane_mask enables
read_data enables (route.FlrInProgress end) = lane_mask enables
read_data enables (route.Starting cause t crs) = shown_data enables crs
read_data enables route.Access = 0

-- the data of an answer to a request that isn't done: none for a write
abbrev pub refused_data : (is_read : Bool) → (enables : ℕ) → Route → ℕ
refused_data true enables r = read_data enables r
refused_data false enables r = 0

-- the slot can be accessed
abbrev pub is_access : Route → Bool
is_access route.NoSlot = false
is_access route.NoWord = false
is_access route.BadEnables = false
is_access route.LinkDown = false
is_access (route.FlrInProgress end) = false
is_access (route.Starting cause t crs) = false
is_access route.Access = true
