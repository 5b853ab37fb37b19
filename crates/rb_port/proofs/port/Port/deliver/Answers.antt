use Rattle.std.proofs.Common.{◌≡◌, ◌++◌, ◌∷◌, [], ◌∙◌, ap, map, reverse}
use Rattle.circular_buffer.specs.Buffer.{keep_last}
use Rattle.rb_rules.specs.Ports.{learned_by}
use Rattle.rb_port.specs.Keeping.{KeptPort, is_lost}
use Rattle.rb_port.proofs.Latest.{faults_more}
use Rattle.rb_port.proofs.port.Port.deliver.Goals as goal

pub returns : goal.returns
returns g c = λ port is.
    let d = c.args.delivery in
    let app : c.self.inside.app ≡ port.app = ap (λ (k : KeptPort). k.app) c.self.view_is ∙ is.app in
    let state : c.self.inside.state ≡ port.state = ap (λ (k : KeptPort). k.state) c.self.view_is ∙ is.state in
    let latest : c.self.inside.latest.items ≡ c.args.self.now.latest = ap (λ (k : KeptPort). k.latest) c.self.view_is in
    let kept : c.push_back.new.self.items ≡ keep_last 64 (c.args.self.now.latest ++ d ∷ []) =
    ap (λ b. b.items) c.push_back.ensures.items
    ∙ ap (λ n. keep_last n (c.self.inside.latest.items ++ d ∷ [])) c.self.invariant.1
    ∙ ap (λ xs. keep_last 64 (xs ++ d ∷ [])) latest in
    record {
      app = app;
      state =
          c.learn-self-inside.ensures
          ∙ ap (λ a. learned_by a c.self.inside.state c.word_in.result) app
          ∙ ap (λ s. learned_by port.app s c.word_in.result) state
          ∙ ap (learned_by port.app port.state) c.word_in.ensures;
      faults = ap (λ xs. map is_lost (reverse xs)) kept ∙ faults_more c.args.self.now.latest d port.faults is.faults;
    }
