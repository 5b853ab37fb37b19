-- Both sides, and what is said of them, from frame to frame.
use Rattle.std.proofs.{Common.{◌≡◌, ℕ, suc, ◌+◌, ◌-◌, ◌<◌, ◌≤◌, All, Bool, true, false, is_some, get_or, Option, Some, None, Result, option_map, List, [], ◌++◌, append_assoc, refl, sym, ◌∙◌, ap, subst, arith}, lemmas.Bool.false≢true}
use Rattle.std.specs.{Io.KnownBytes.Appends, Option.option_or}
use Rattle.rb_rules.specs.{Goodness.Scenario, Ports.HandIn}
use Rattle.rb_world_book.specs.{Records.record_of, declared.turn.Turn.Turn}
use Rattle.rb_outside.specs.Bytes.{AppendsPart}
use Rattle.rb_outside.proofs.Known.{appends_join, appends_none, part_join, part_widens}
use Rattle.rb_report.specs.Report.{end_text}
use Rattle.rb_world.specs.Nexts.{is_last}
use Rattle.rb_run.specs.Seen.{drive_of}
use Rattle.rb_bridge.specs.{Running.IsUnderWay, declared.side.Side.Side, declared.telling.Breach.Breach, Sides.{BeforeFrame, GivesAll, RunsOut}, Crossing.{ArePlain, AreReady, AreThrough, BreaksOff, BridgeRun, Crosses, CrossesAll, CrossesPart, FindBoth, GiveAll, GiveSome, GoThrough, MayCross, WritesAll, WritesPart, run_after, run_of, shown, told_text}}
use Rattle.rb_rules_bridge.specs.{declared.bank.Bank.Bank, declared.bank.Bank.TheVariants.{Left, Right}, declared.bank.Pair.Pair, Bridges.{Bridge, IsBridge, IsHead, biu_on, bus_on}, Texts.{Break, break_at, break_from, break_of, bridge_text, frame_text, text_from, text_with}}
use Rattle.rb_bridge.proofs.{Opened.{all-are-some, gives-all}, Told.finds}
use Rattle.rb_run.specs.declared.ending.Ending.TheVariants as ending

-- What is known of a bridge.

-- the BIUs of a bridge's pairs have numbers below 16
pub heads-small : (b : Bridge) (bank : Bank) → IsBridge b → All (λ pair. biu_on bank pair < 16) b.pairs
heads-small b bank bridge k d lt =
    let head : IsHead (bus_on b bank) (biu_on bank (get_or b.pairs k d)) = bridge.heads bank k d lt in
    let inside : biu_on bank (get_or b.pairs k d) < (bus_on b bank).sizes.bius = head.inside in
    let most : (bus_on b bank).sizes.bius ≤ 16 = (bridge.lawful bank).sizes.most_bius in
    omega (arith, inside, most)

pub pairs-small : (b : Bridge) (bank : Bank) (pairs : List Pair) → IsBridge b → b.pairs ≡ pairs → All (λ pair. biu_on bank pair < 16) pairs
pairs-small b bank pairs bridge same = subst (λ ps. All (λ pair. biu_on bank pair < 16) ps) same (heads-small b bank bridge)

-- no claim is made of the text
pub never-plain : (lp rp : Bool) → ArePlain false lp rp
never-plain lp rp = record { left = λ e. absurd (false≢true e); right = λ e. absurd (false≢true e) }

-- what is known of two drives is known of them later
pub restated : (P : Bool → Bool → Type 0) (a b c d : Bool) → a ≡ c → b ≡ d → P a b → P c d
restated P a b c d e f p = subst (λ x. P x d) e (subst (λ y. P a y) f p)

-- One frame.

pub some-found : (o : Option Breach) → is_some o ≡ true → (x : Breach) × (o ≡ Some x)
some-found None e = cc
some-found (Some x) e = (x, refl)

pub none-found : (o : Option Breach) → is_some o ≡ false → o ≡ None
none-found None e = refl
none-found (Some x) e = cc

find-both : (x : BridgeRun) (frame : ℕ) (l r : Side) → frame < x.b.left.frames → ArePlain x.both x.left.is_plain x.right.is_plain → x.both ≡ true → AreThrough x frame l r
    → FindBoth x.b frame l r
find-both x frame l r below plain sure is = record {
  left = finds x.b Left frame x.both x.left.is_plain x.left.told x.left.since l (omega (arith, below)) sure (plain.left sure) is.left is.unbroken.left;
  right = finds x.b Right frame x.both x.right.is_plain x.right.told x.right.since r (omega (arith, below)) sure (plain.right sure) is.right is.unbroken.right;
}

-- what is written of a frame is what is said of it
pub told-all : (x : BridgeRun) (frame : ℕ) (l r : Side) (o : Option Breach) (P : List ℕ → Type 0)
    → frame < x.b.left.frames → ArePlain x.both x.left.is_plain x.right.is_plain → GoThrough x frame l r (option_map shown o)
    → ((o ≡ None → FindBoth x.b frame l r) → P (told_text x.b frame (option_map shown o))) → x.both ≡ true → P (told_text x.b frame (break_at x.b frame))
told-all x frame l r o P below plain is writes sure =
    subst (λ k. P (told_text x.b frame k)) (sym (is.breach_is sure))
    (writes (λ none. find-both x frame l r below plain sure (is.through (ap (option_map shown) none))))

pub breaks-off : (x : BridgeRun) (frame : ℕ) (l r m n : Side) (o : Option Breach) (found : Breach) (held after : Option (List ℕ))
    → GoThrough x frame l r (option_map shown o) → o ≡ Some found → (x.both ≡ true → Appends held after (told_text x.b frame (break_at x.b frame)))
    → CrossesAll x frame (m, n) held after false
breaks-off x frame l r m n o found held after is is_found text = record {
  some = is.some;
  text = text;
  ready = λ e. absurd (false≢true e);
  unbroken = λ e sure. absurd (false≢true e);
  broken = λ e. record { break = shown found; break_is = λ sure. is.breach_is sure ∙ here; all = is.broken (shown found) here };
}
  where
    here : option_map shown o ≡ Some (shown found)
    here = ap (option_map shown) is_found

pub goes-on : (x : BridgeRun) (frame : ℕ) (l r m n : Side) (o : Option Breach) (held after : Option (List ℕ))
    → GoThrough x frame l r (option_map shown o) → o ≡ None → (x.both ≡ true → Appends held after (told_text x.b frame (break_at x.b frame)))
    → AreReady x (frame + 1) m n → CrossesAll x frame (m, n) held after true
goes-on x frame l r m n o held after is none text ready = record {
  some = is.some;
  text = text;
  ready = λ e. ready;
  unbroken = λ e sure. is.breach_is sure ∙ ap (option_map shown) none;
  broken = λ e. absurd (never e);
}
  where
    never : true ≡ false → ⊥
    never e = cc

pub crosses-part : (x : BridgeRun) (frame : ℕ) (l r : Side) (o : Option Breach) (held after : Option (List ℕ))
    → GoThrough x frame l r (option_map shown o) → (x.both ≡ true → AppendsPart held after (told_text x.b frame (break_at x.b frame))) → CrossesPart x frame held after
crosses-part x frame l r o held after is text = record { some = is.some; text = text }

-- The text.

-- what is written is the text of the frames before this one, none of which has a breach
pub record IsWritten (b : Bridge) (frame : ℕ) (held after : Option (List ℕ)) : Type 0 where
  pub lines : List ℕ
  pub written : Appends held after lines
  pub text : bridge_text b ≡ lines ++ text_from b frame (b.left.frames - frame)
  pub breaks : break_of b ≡ break_from b frame (b.left.frames - frame)

pub first-written : (b : Bridge) (held : Option (List ℕ)) → IsWritten b 0 held held
first-written b held = record {
  lines = [];
  written = appends_none held;
  text = ap (text_from b 0) (sym (all b.left.frames));
  breaks = ap (break_from b 0) (sym (all b.left.frames));
}
  where
    all : (n : ℕ) → n - 0 ≡ n
    all n = omega arith

left-over : (frames frame : ℕ) → frame < frames → frames - frame ≡ suc (frames - (frame + 1))
left-over frames frame below = omega (arith, below)

pub next-written : (b : Bridge) (frame : ℕ) (held mid after : Option (List ℕ)) → IsWritten b frame held mid → frame < b.left.frames → break_at b frame ≡ None
    → Appends mid after (told_text b frame (break_at b frame)) → IsWritten b (frame + 1) held after
next-written b frame held mid after is below none now =
    let n : ℕ = b.left.frames - (frame + 1) in
    let more : b.left.frames - frame ≡ suc n = left-over b.left.frames frame below in
    let rest : List ℕ = text_from b (frame + 1) n in
    record {
      lines = is.lines ++ frame_text b frame;
      written = appends_join held mid after is.lines (frame_text b frame) is.written (subst (λ k. Appends mid after (told_text b frame k)) none now);
      text =
          is.text ∙ ap (λ m. is.lines ++ text_from b frame m) more ∙ ap (λ k. is.lines ++ text_with (frame_text b frame) rest k) none
          ∙ sym (append_assoc is.lines (frame_text b frame) rest);
      breaks = is.breaks ∙ ap (break_from b frame) more ∙ ap (λ k. option_or k (break_from b (frame + 1) n)) none;
    }

-- if the bridge breaks in `frame`, its whole text is written, and its break is this one
pub break-written : (b : Bridge) (frame : ℕ) (held mid after : Option (List ℕ)) (k : Break) → IsWritten b frame held mid → frame < b.left.frames → break_at b frame ≡ Some k
    → Appends mid after (told_text b frame (break_at b frame)) → Appends held after (bridge_text b) × (break_of b ≡ Some k)
break-written b frame held mid after k is below some now =
    let n : ℕ = b.left.frames - (frame + 1) in
    let more : b.left.frames - frame ≡ suc n = left-over b.left.frames frame below in (
      subst (λ t. Appends held after t)
          (sym (is.text ∙ ap (λ m. is.lines ++ text_from b frame m) more ∙ ap (λ k. is.lines ++ text_with (frame_text b frame) (text_from b (frame + 1) n) k) some))
          (appends_join held mid after is.lines (told_text b frame (Some k)) is.written (subst (λ k. Appends mid after (told_text b frame k)) some now)),
      is.breaks ∙ ap (break_from b frame) more ∙ ap (λ k. option_or k (break_from b (frame + 1) n)) some,
    )

pub part-written : (b : Bridge) (frame : ℕ) (held mid after : Option (List ℕ)) → IsWritten b frame held mid → frame < b.left.frames
    → AppendsPart mid after (told_text b frame (break_at b frame)) → AppendsPart held after (bridge_text b)
part-written b frame held mid after is below now =
    subst (λ t. AppendsPart held after t) (sym (is.text ∙ ap (λ m. is.lines ++ text_from b frame m) (left-over b.left.frames frame below)))
    (part_join held mid after is.lines (text_with (frame_text b frame) rest (break_at b frame)) is.written (by (break_at b frame) now))
  where
    rest : List ℕ
    rest = text_from b (frame + 1) (b.left.frames - (frame + 1))

    by : (k : Option Break) → AppendsPart mid after (told_text b frame k) → AppendsPart mid after (text_with (frame_text b frame) rest k)
    by None part = part_widens mid after (frame_text b frame) rest part
    by (Some k) part = part

-- after the last frame only the end of the text is missing, and the bridge has no break
ends-with : (b : Bridge) (frame : ℕ) (held mid : Option (List ℕ)) → (is : IsWritten b frame held mid) → frame ≡ b.left.frames
    → (bridge_text b ≡ is.lines ++ end_text frame) × (break_of b ≡ None)
ends-with b frame held mid is all =
    let none : b.left.frames - frame ≡ 0 = omega (arith, all) in
    (is.text ∙ ap (λ m. is.lines ++ text_from b frame m) none, is.breaks ∙ ap (break_from b frame) none)

pub end-written : (b : Bridge) (frame : ℕ) (held mid after : Option (List ℕ)) → IsWritten b frame held mid → frame ≡ b.left.frames → Appends mid after (end_text frame)
    → Appends held after (bridge_text b) × (break_of b ≡ None)
end-written b frame held mid after is all now =
    let ends = ends-with b frame held mid is all in
    (subst (λ t. Appends held after t) (sym ends.0) (appends_join held mid after is.lines (end_text frame) is.written now), ends.1)

pub end-part : (b : Bridge) (frame : ℕ) (held mid after : Option (List ℕ)) → IsWritten b frame held mid → frame ≡ b.left.frames → AppendsPart mid after (end_text frame)
    → AppendsPart held after (bridge_text b)
end-part b frame held mid after is all now =
    subst (λ t. AppendsPart held after t) (sym (ends-with b frame held mid is all).0) (part_join held mid after is.lines (end_text frame) is.written now)

-- All frames.

-- a run of a bridge, by each part of what is seen of its drives
abbrev pub run_with : Bridge → Bool → Bool → Option (List Turn) → Option (List Turn) → Bool → Option (List Turn) → Option (List Turn) → BridgeRun
run_with b both lp ltold lsince rp rtold rsince = run_of b both (drive_of lp ltold lsince) (drive_of rp rtold rsince)

-- the sides `l` and `r` are ready for `frame`, and what was said before it is written
pub record IsCrossing (x : BridgeRun) (frame : ℕ) (l r : Side) (held after : Option (List ℕ)) : Type 0 where
  pub ready : AreReady x frame l r
  pub text : x.both ≡ true → IsWritten x.b frame held after

-- `Crosses` holds for the run if the drives are as plain as they were
pub now-crosses : {E : Type 0} (b : Bridge) (pairs : List Pair) (frame : ℕ) (both now_lp now_rp lp rp : Bool) (ltold lmid lsince rtold rmid rsince : Option (List Turn)) (l r : Side) (sides : Side × Side)
    (mid after : Option (List ℕ)) (result : Result Bool E) → IsBridge b → b.pairs ≡ pairs → frame < b.left.frames → now_lp ≡ lp → now_rp ≡ rp
    → AreReady (run_with b both lp ltold lmid rp rtold rmid) frame l r → ArePlain both lp rp
    → ((x : MayCross pairs frame (record { left = drive_of now_lp lmid lsince; right = drive_of now_rp rmid rsince }) l r) → Crosses (run_after x.run) frame sides mid after result)
    → Crosses (run_with b both lp ltold lsince rp rtold rsince) frame sides mid after result
now-crosses b pairs frame both now_lp now_rp lp rp ltold lmid lsince rtold rmid rsince l r sides mid after result bridge same below e f ready plain crosses =
    restated (λ lp rp. Crosses (run_with b both lp ltold lsince rp rtold rsince) frame sides mid after result) now_lp now_rp lp rp e f
    (crosses (record {
      run = record { b = b; both = both; left_told = ltold; right_told = rtold; bridge = bridge; within = below; plain = now_plain; ready = now_ready };
      pairs_are = same;
    }))
  where
    now_plain : ArePlain both now_lp now_rp
    now_plain = restated (ArePlain both) lp rp now_lp now_rp (sym e) (sym f) plain

    now_ready : AreReady (run_with b both now_lp ltold lmid now_rp rtold rmid) frame l r
    now_ready = restated (λ lp rp. AreReady (run_with b both lp ltold lmid rp rtold rmid) frame l r) lp rp now_lp now_rp (sym e) (sym f) ready

pub next-crossing : (x : BridgeRun) (frame : ℕ) (m n : Side) (held mid after : Option (List ℕ)) (on : Bool) → CrossesAll x frame (m, n) mid after on
    → (x.both ≡ true → IsWritten x.b frame held mid) → frame < x.b.left.frames → on ≡ true → IsCrossing x (frame + 1) m n held after
next-crossing x frame m n held mid after on now written below goes =
    record { ready = now.ready goes; text = λ sure. next-written x.b frame held mid after (written sure) below (now.unbroken goes sure) (now.text sure) }

pub broken-crossing : (x : BridgeRun) (frame : ℕ) (sides : Side × Side) (held mid after : Option (List ℕ)) (on : Bool) → CrossesAll x frame sides mid after on
    → (x.both ≡ true → IsWritten x.b frame held mid) → frame < x.b.left.frames → on ≡ false → WritesAll x held after ending.Breach
broken-crossing x frame sides held mid after on now written below stops =
    let off : BreaksOff x frame = now.broken stops in
    record {
      some = now.some;
      text = λ sure. (break-written x.b frame held mid after off.break (written sure) below (off.break_is sure) (now.text sure)).0;
      ends = (off.break, (λ sure. (break-written x.b frame held mid after off.break (written sure) below (off.break_is sure) (now.text sure)).1, (frame, off.all)));
    }

pub part-crossing : (x : BridgeRun) (frame : ℕ) (held mid after : Option (List ℕ)) → CrossesPart x frame mid after
    → (x.both ≡ true → IsWritten x.b frame held mid) → frame < x.b.left.frames → WritesPart x held after
part-crossing x frame held mid after now written below = record { some = now.some; text = λ sure. part-written x.b frame held mid after (written sure) below (now.text sure) }

-- After the last frame.

-- what is asked of a drive that gives all turns that are left
abbrev pub Finishes : Bool → Option (List Turn) → Option (List Turn) → Side → Type 0
Finishes is_plain mid since s =
    (sc : Scenario) (handed : List HandIn) (told : Option (List Turn)) (turns : List Turn)
    → IsUnderWay sc handed is_plain told mid s.world turns (is_last (record_of s.turn)) → RunsOut sc handed is_plain told since

-- the drive gives all turns once it was asked for those that are left
all-given : (b : Bridge) (bank : Bank) (frame : ℕ) (both now_plain is_plain : Bool) (told mid since : Option (List Turn)) (s : Side) → frame ≡ b.left.frames → now_plain ≡ is_plain
    → BeforeFrame b bank frame both (drive_of is_plain told mid) s → Finishes now_plain mid since s → GivesAll b bank frame both (drive_of is_plain told since)
all-given b bank frame both now_plain is_plain told mid since s all e is finish =
    gives-all b bank frame both is_plain told mid since s all is (subst (λ p. Finishes p mid since s) e finish (bus_on b bank) is.handed told is.turns is.ready.given)

pub both-given : (b : Bridge) (frame : ℕ) (both now_lp now_rp lp rp : Bool) (ltold lmid lsince rtold rmid rsince : Option (List Turn)) (l r : Side) → frame ≡ b.left.frames → now_lp ≡ lp → now_rp ≡ rp
    → AreReady (run_with b both lp ltold lmid rp rtold rmid) frame l r → Finishes now_lp lmid lsince l → Finishes now_rp rmid rsince r → GiveAll (run_with b both lp ltold lsince rp rtold rsince) frame
both-given b frame both now_lp now_rp lp rp ltold lmid lsince rtold rmid rsince l r all e f ready left right = record {
  left = all-given b Left frame both now_lp lp ltold lmid lsince l all e ready.left left;
  right = all-given b Right frame both now_rp rp rtold rmid rsince r all f ready.right right;
}

both-some : (x : BridgeRun) (frame : ℕ) → GiveAll x frame → GiveSome x
both-some x frame is = record {
  left = all-are-some x.b Left frame x.both x.left.is_plain x.left.told x.left.since is.left;
  right = all-are-some x.b Right frame x.both x.right.is_plain x.right.told x.right.since is.right;
}

pub ended-crossing : (x : BridgeRun) (frame : ℕ) (held mid after : Option (List ℕ)) → GiveAll x frame
    → (x.both ≡ true → IsWritten x.b frame held mid) → frame ≡ x.b.left.frames → Appends mid after (end_text frame) → WritesAll x held after ending.Ended
ended-crossing x frame held mid after given written all now = record {
  some = both-some x frame given;
  text = λ sure. (end-written x.b frame held mid after (written sure) all now).0;
  ends = (λ sure. (end-written x.b frame held mid after (written sure) all now).1, subst (GiveAll x) all given);
}

pub end-crossing : (x : BridgeRun) (frame : ℕ) (held mid after : Option (List ℕ)) → GiveAll x frame
    → (x.both ≡ true → IsWritten x.b frame held mid) → frame ≡ x.b.left.frames → AppendsPart mid after (end_text frame) → WritesPart x held after
end-crossing x frame held mid after given written all now = record { some = both-some x frame given; text = λ sure. end-part x.b frame held mid after (written sure) all now }
