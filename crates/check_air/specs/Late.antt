-- A text that is told later is the text that left: `cetskobi_body` may be asked of a laptop that has made more calls since the message left.
use Rattle.std.specs.Prelude.{ℕ, ◌*◌, ◌≡◌, Bool, List, ◌≢◌, take, drop}
use Rattle.hermes.specs.declared.event.Event.{Event}
use Rattle.hermes.specs.Run.{Logged}
use Rattle.export_numbers.specs.declared.numbers.CetskobiAnswer.{CetskobiAnswer}
use Rattle.export_calls.specs.Calls.{node_of, Done}
use Rattle.export_outgoing.specs.Leaving.{Along, along, along_of, AlongAt}
use Rattle.check_air.specs.Air.{Sending, Leaves, Called}
use Rattle.check_air.specs.Callers.{Hut, Turn, after, Follows}

-- what `cetskobi_body` tells of answer a about record i, asked of laptop k
abbrev pub told_by : Hut → ℕ → ℕ → CetskobiAnswer → Along
told_by h k i a = along_of (h.at k).table (h.at k).store i a

-- Asked twice, with any calls in between, it tells one text, or that the text is gone. h is the group at any moment.
abbrev pub OneText : Type 0
OneText = (member : ℕ → Bool) (issued : ℕ → ℕ) (h : Hut) (turns : List Turn) → Follows member issued h turns
    → (k i : ℕ) (a : CetskobiAnswer) (early late : List ℕ)
    → told_by h k i a ≡ along early → told_by (after h turns) k i a ≡ along late → late ≡ early

-- `Called` of `Air`, but asked later: the event left laptop k of h as it is there, and these calls were made before `cetskobi_body` was
pub record CalledLate (member : ℕ → Bool) (issued : ℕ → ℕ) (x : Logged) (s : Sending) : Type 0 where
  pub table : List ℕ
  pub store : List ℕ
  pub event : Event
  pub value : List ℕ
  pub h : Hut
  pub k : ℕ
  pub called : Done (node_of s.from table store) table s.index event value s.left (h.at k).table (h.at k).store
  pub leaves : Leaves (node_of s.from table store) s.index event value x
  pub turns : List Turn
  pub follows : Follows member issued h turns
  -- the text is not gone, and its bytes were copied as the laptop has them by then
  pub told : ℕ
  pub asked : AlongAt ((after h turns).at k).store s.index (told_by (after h turns) k s.index s.left) told
  pub there : told ≢ 18446744073709551615
  pub copied : s.body ≡ take told (drop (192 * s.index) ((after h turns).at k).store)

-- what is told then is what left: so `ThroughTheAir`, and the packets of `CalledDemand3`, take it as if it had been asked at once
abbrev pub LateIsCalled : Type 0
LateIsCalled = (member : ℕ → Bool) (issued : ℕ → ℕ) (x : Logged) (s : Sending) → CalledLate member issued x s → Called x s
