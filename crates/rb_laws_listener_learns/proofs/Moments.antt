-- A good RMU's message tells the window in which it was sent, so no two of its messages have one
-- place.
use Rattle.std.proofs.{Common.{◌≡◌, ℕ, ◌+◌, ◌*◌, ◌%◌, ◌≤◌, sym, ◌∙◌, ap, subst, arith}, lemmas.Option.same_Some}
use Rattle.rb_base.specs.Nodes.Side.{Rmu}
use Rattle.rb_rules.specs.{Lawful.IsLawful, Rounds.{moment, sending_in, window_in, windows_in}}
use Rattle.rb_laws_agreement.proofs.Agreement.{IsAgreed, agreement}
use Rattle.rb_laws_synchrony.proofs.EpochTicks.{within_run}
use Rattle.rb_laws_listener_learns.specs.Ears.{IsOfGood, SendsIn, coming_to}
use Rattle.rb_laws_listener_learns.proofs.Sendings.{IsInPlace, in-place}

-- The window by the message.

pub same-frame : (a b most : ℕ) → a ≤ most → b ≤ most → most ≤ 4096 → a % 65536 ≡ b % 65536 → a ≡ b
same-frame a b most le_a le_b small e = omega (arith, e, le_a, le_b, small)

pub same-window : {sc hands : _} → IsLawful sc → {a b j s t : _} → SendsIn sc hands a j s → SendsIn sc hands b j t
    → s.message.frame ≡ t.message.frame → s.message.slot ≡ t.message.slot → s.message.stage ≡ t.message.stage → a ≡ b
same-window {sc} {hands} law {a} {b} {s} {t} sends_a sends_b frame slot stage =
    let at_a : IsInPlace sc (moment sc hands a) s.message = in-place law sends_a in
    let at_b : IsInPlace sc (moment sc hands b) t.message = in-place law sends_b in
    let frames : (moment sc hands a).frame ≡ (moment sc hands b).frame =
    same-frame (moment sc hands a).frame (moment sc hands b).frame sc.frames (within_run sc hands a sends_a.running) (within_run sc hands b sends_b.running) law.frames.1
    (sym at_a.frame ∙ frame ∙ at_b.frame) in
    let windows : (moment sc hands a).window ≡ (moment sc hands b).window = omega (arith, at_a.window, at_b.window, slot, stage) in
    let agreed_a : IsAgreed sc hands a = agreement hands law a sends_a.running in
    let agreed_b : IsAgreed sc hands b = agreement hands law b sends_b.running in
    agreed_a.agree.place ∙ ap (λ f. f * (windows_in sc.sizes + 1) + (moment sc hands a).window) frames
    ∙ ap (λ w. (moment sc hands b).frame * (windows_in sc.sizes + 1) + w) windows ∙ sym agreed_b.agree.place

-- One message in a window.

pub same-sent : {sc hands n j s t : _} → SendsIn sc hands n j s → SendsIn sc hands n j t → s ≡ t
same-sent {sc} {hands} {n} {j} {s} {t} a b =
    let states : a.state ≡ b.state = same_Some a.state b.state (sym a.good.0 ∙ b.good.0) in
    same_Some s t (sym a.sends ∙ ap (λ st. sending_in sc (moment sc hands n) Rmu j st (window_in sc (moment sc hands n) Rmu st)) states ∙ b.sends)

pub same-coming : {sc hands : _} → IsLawful sc → {ear c d : _} (a : IsOfGood sc hands ear c) (b : IsOfGood sc hands ear d) → c.from ≡ d.from
    → a.sending.message.frame ≡ b.sending.message.frame → a.sending.message.slot ≡ b.sending.message.slot → a.sending.message.stage ≡ b.sending.message.stage → c ≡ d
same-coming {sc} {hands} law {ear} {c} {d} a b from frame slot stage =
    let sends : SendsIn sc hands b.n c.from b.sending = subst (λ j. SendsIn sc hands b.n j b.sending) (sym from) b.sent in
    let windows : a.n ≡ b.n = same-window law a.sent sends frame slot stage in
    let sent : a.sending ≡ b.sending = same-sent (subst (λ k. SendsIn sc hands k c.from a.sending) windows a.sent) sends in
    a.is ∙ ap (λ j. coming_to sc ear j (moment sc hands a.n).frame a.sending) from
    ∙ ap (λ k. coming_to sc ear d.from (moment sc hands k).frame a.sending) windows
    ∙ ap (λ x. coming_to sc ear d.from (moment sc hands b.n).frame x) sent ∙ sym b.is
