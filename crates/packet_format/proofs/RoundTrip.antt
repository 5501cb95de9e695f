-- Demand 2 of packets, over the rule: a packet written reads back as the same messages, and an accepted packet is the one that the writer makes of its messages.
use mathlib.Core.Path.{◌≡◌, refl, sym, ap, ◌∙◌}
use mathlib.Core.Bool.{Bool, true, false, cond, ◌||◌}
use mathlib.Core.List.{List, ◌∷◌, ◌++◌}
use Prim.Native.Nat.{ℕ, zero, suc, ◌+◌, ◌*◌, ◌≤◌, ◌<◌}
use native.Mathlib.Omega.{arith}
use borrow.Author.Tests.{eq-eqb, leb-true, eqb-true}
use lib.Dec.{eqb}
use lib.ListN.{length, take, drop, get_or, length-drop, length-append}
use lib.Seq.{drop-drop, drop_at, take_at}
use Rattle.hermes_record.specs.declared.timestamp.Rule.{Rule}
use Rattle.hermes_record.specs.declared.timestamp.Rule.TheVariants.{Higher, Lower}
use Rattle.hermes_record.specs.Order.{rule_number}
use Rattle.hermes.specs.Store.{Bytes}
use Rattle.packet_format.specs.declared.entry.Entry.{Entry}
use Rattle.packet_format.specs.declared.entry.Fields.{Fields}
use Rattle.std.specs.Prelude.{Ok}
use Rattle.packet_format.specs.Bytes.{be, window}
use Rattle.packet_format.specs.Entry.{fields_of, fields_for, no_entry}
use Rattle.packet_format.specs.Reading.{rule_in, count_of, entry_place, packet_messages, bodies_in, question20, question27, question21, question22, question23, walk, fetch_refusal, fetched_as, fetched, body_of}
use Rattle.packet_format.specs.Writing.{summed, contents, total_of, packet_bytes, all_good, output_of}
use Rattle.packet_format.specs.RoundTrip.{ReadsBack, WrittenReadsBack, WrittenOtherRule, AcceptedIsWritten}
use Rattle.packet_format.proofs.Width.{num-be, window-drop, be-window}
use Rattle.packet_format.proofs.Writing.{Accepts, accepts, accepted, total-yes}
use Rattle.packet_format.proofs.Reading.{part_to_end, Header, header, header-yes, fetch-23, fetch-0}
use Rattle.packet_format.proofs.Accepting.{other-rule-refused}
use Rattle.packet_format.proofs.Entries.{entry-back}
use Rattle.packet_format.proofs.Contents.{length-contents, length-entries, bytes_drop, walk-contents, contents-entry, contents-walk}

-- ---- what is written is read

pub packet-length : (rule : Rule) (es : List Entry) (bodies : List ℕ) → length (packet_bytes rule es bodies) ≡ total_of (length es) bodies
unfolding packet_bytes
packet-length rule es bodies =
    let h = length-append (contents (entry_place (length es)) es) bodies in
    let t = length-contents es (entry_place (length es)) in
    omega arith

-- question 20 lets each rule's number pass
named : (rule : Rule) → (eqb (rule_number rule) 1 || eqb (rule_number rule) 2) ≡ true
named Higher = refl
named Lower = refl

module _ (rule : Rule) (es : List Entry) (bodies : List ℕ) (room : ℕ) (w : Accepts es bodies room) where
  packet-header : Header (packet_bytes rule es bodies)
  unfolding packet_bytes
  packet-header =
      let n = packet-length rule es bodies in
      record {
        long = omega arith;
        first = named rule;
        some = w.some;
        few = w.few;
        total = num-be 1 (total_of (length es) bodies) ∙ sym n;
        short = omega (arith, w.short);
      }

  packet-walk : (question22 (packet_bytes rule es bodies)).yes ≡ true
  unfolding packet_bytes
  packet-walk =
      ap (walk (length es) (contents (entry_place (length es)) es ++ bodies) (entry_place (length es)))
      (packet-length rule es bodies ∙ ap (λ (k : ℕ). entry_place (length es) + k) (sym w.exact))
      ∙ walk-contents es (entry_place (length es)) bodies w.good

packet-rule : (rule : Rule) (es : List Entry) (bodies : List ℕ) → rule_in (packet_bytes rule es bodies) ≡ rule_number rule
unfolding packet_bytes
packet-rule rule es bodies = refl

packet-count : (rule : Rule) (es : List Entry) (bodies : List ℕ) → count_of (packet_bytes rule es bodies) ≡ length es
unfolding packet_bytes
packet-count rule es bodies = refl

-- behind the header of a written packet
drop-header : (rule : Rule) (es : List Entry) (bodies : List ℕ) (a : ℕ) → drop (4 + a) (packet_bytes rule es bodies) ≡ drop a (contents (entry_place (length es)) es ++ bodies)
unfolding packet_bytes
drop-header rule es bodies a = sym (drop-drop a 4 (packet_bytes rule es bodies))

-- behind its contents table
drop-contents : (rule : Rule) (es : List Entry) (bodies : List ℕ) (a : ℕ) → drop (entry_place (length es) + a) (packet_bytes rule es bodies) ≡ drop a bodies
drop-contents rule es bodies a =
    sym (drop-drop a (entry_place (length es)) (packet_bytes rule es bodies))
    ∙ ap (drop a)
    (drop-header rule es bodies (16 * length es) ∙ drop_at (contents (entry_place (length es)) es) bodies (16 * length es) (length-contents es (entry_place (length es))))

packet-reads-back : (rule : Rule) (es : List Entry) (bodies : List ℕ) (room : ℕ) → Accepts es bodies room → ReadsBack rule (packet_bytes rule es bodies) es bodies
unfolding packet_bytes
packet-reads-back rule es bodies room w =
    record {
      message = message;
      body = λ i l. ap (body_of p) (message i l) ∙ ap (take (get_or es i no_entry).len) (drop-contents rule es bodies (summed (take i es)));
      beyond = λ i l. sym (fetch-23 rule p i yes20 own yes21 yes22 l);
    }
  where
    p : List ℕ
    p = packet_bytes rule es bodies

    yes20 : (question20 p).yes ≡ true
    yes20 = header-yes p (packet-header rule es bodies room w)

    own : rule_in p ≡ rule_number rule
    own = packet-rule rule es bodies

    yes21 : entry_place (count_of p) ≤ length p
    yes21 = omega (arith, packet-count rule es bodies, packet-length rule es bodies)

    yes22 : (question22 p).yes ≡ true
    yes22 = packet-walk rule es bodies room w

    message : (i : ℕ) → i < length es → fetched rule p i ≡ Ok (get_or es i no_entry, entry_place (length es) + summed (take i es))
    message i l =
        let at = entry_place (length es) + summed (take i es) in
        let e = get_or es i no_entry in
        let f : fields_of (drop (entry_place i) p) ≡ fields_for e at =
        ap fields_of (drop-header rule es bodies (16 * i)) ∙ contents-entry es i (entry_place (length es)) bodies l in
        sym (fetch-0 rule p i yes20 own yes21 yes22 l (fields_for e at) (sym (ap fields_of (part_to_end p (entry_place i)) ∙ f))) ∙ ap (λ (x : Entry). Ok (x, at)) (entry-back e at)

-- a packet written reads back as the same messages
pub written-reads-back : WrittenReadsBack
unfolding output_of
written-reads-back rule es bodies out n h =
    let t = total-yes es bodies (length out) n h in
    let a = accepts es bodies (length out) t.0 in
    rw (take_at (packet_bytes rule es bodies) (drop n out) n (packet-length rule es bodies ∙ t.1)) (packet-reads-back rule es bodies (length out) a)

-- and a group of the other rule refuses it
pub written-other-rule : WrittenOtherRule
unfolding output_of
written-other-rule rule other es bodies out n different h =
    let t = total-yes es bodies (length out) n h in
    let a = accepts es bodies (length out) t.0 in
    let p = packet_bytes rule es bodies in
    rw (take_at p (drop n out) n (packet-length rule es bodies ∙ t.1))
    (other-rule-refused rule other p different (header-yes p (packet-header rule es bodies (length out) a)) (eq-eqb _ _ (packet-rule rule es bodies)))

-- ---- what is read is written

-- the questions of a fetch that all said yes
all-passed : (a r b c d : Bool) → ◌≡◌ {A = ℕ} (cond a (cond r (cond b (cond c (cond d 0 23) 22) 21) 27) 20) 0
    → (a ≡ true) × (r ≡ true) × (b ≡ true) × (c ≡ true)
all-passed true true true true true h = (refl, refl, refl, refl)
all-passed true true true true false h = absurd (omega (arith, h))
all-passed true true true false d h = absurd (omega (arith, h))
all-passed true true false c d h = absurd (omega (arith, h))
all-passed true false b c d h = absurd (omega (arith, h))
all-passed false r b c d h = absurd (omega (arith, h))

found-zero : (k : ℕ) (f : Fields) (e : Entry) (at : ℕ) → fetched_as k f ≡ Ok (e, at) → k ≡ 0
found-zero zero f e at h = refl
found-zero (suc k) f e at h = let z : ◌≡◌ {A = ℕ} 0 1 = cc in absurd (omega arith)

-- what an accepted fetch tells of its packet
record Read (rule : Rule) (p : List ℕ) : Type 0 where
  header : Header p
  own : rule_in p ≡ rule_number rule
  whole : entry_place (count_of p) ≤ length p
  walked : (question22 p).yes ≡ true

read : (rule : Rule) (p : List ℕ) (i : ℕ) (e : Entry) (at : ℕ) → fetched rule p i ≡ Ok (e, at) → Read rule p
unfolding fetched fetch_refusal
read rule p i e at h =
    let z = found-zero (fetch_refusal rule p i) (fields_of (drop (entry_place i) p)) e at h in
    let s = all-passed (question20 p).yes (question27 rule p).yes (question21 p).yes (question22 p).yes (question23 p i).yes z in
    record { header = header p s.0; own = eqb-true _ _ s.1; whole = leb-true _ _ s.2; walked = s.3 }

module _ (rule : Rule) (p : List ℕ) (b : Bytes p) (r : Read rule p) where
  read-contents : (contents (entry_place (count_of p)) (packet_messages p) ++ drop (16 * count_of p) (drop 4 p) ≡ drop 4 p)
      × (entry_place (count_of p) + summed (packet_messages p) ≡ length p)
      × (all_good (packet_messages p) ≡ true)
  read-contents =
      contents-walk (count_of p) (drop 4 p) (entry_place (count_of p)) (length p) (simp length-drop (omega (arith, r.whole))) (bytes_drop 4 p b) r.walked

  -- an accepted packet is that of its messages
  packet-read : packet_bytes rule (packet_messages p) (bodies_in p) ≡ p
  unfolding packet_bytes
  packet-read =
      let n = count_of p in
      let es = packet_messages p in
      let rest = bodies_in p in
      let k : length es ≡ n = length-entries n (drop 4 p) in
      let two : be 2 (length p) ≡ window p 2 2 = ap (be 2) (sym r.header.total) ∙ be-window p 2 2 b in
      let tail : contents (entry_place n) es ++ rest ≡ drop 4 p =
      ap (λ (l : List ℕ). contents (entry_place n) es ++ l) (sym (drop-drop (16 * n) 4 p)) ∙ read-contents.0 in
      let total : total_of (length es) rest ≡ length p = omega (arith, length-drop (entry_place n) p, r.whole) in
      let e1 : packet_bytes rule es rest ≡ rule_number rule ∷ n ∷ be 2 (length p) ++ contents (entry_place n) es ++ rest =
      λ i. rule_number rule ∷ k i ∷ be 2 (total i) ++ contents (entry_place (k i)) es ++ rest in
      let e2 : rule_number rule ∷ n ∷ be 2 (length p) ++ contents (entry_place n) es ++ rest ≡ window p 0 4 ++ drop 4 p =
      λ i. sym r.own i ∷ n ∷ two i ++ tail i in
      e1 ∙ e2 ∙ sym (window-drop p 0 4 r.header.long)

  -- and the writer accepts them, wherever there is room for it
  read-accepted : (room : ℕ) → length p ≤ room → Accepts (packet_messages p) (bodies_in p) room
  read-accepted room l =
      let k = length-entries (count_of p) (drop 4 p) in
      let d = length-drop (entry_place (count_of p)) p in
      record {
        some = omega (arith, r.header.some);
        few = omega (arith, r.header.few);
        good = read-contents.2;
        exact = omega (arith, read-contents.1, r.whole);
        short = omega (arith, r.header.short, r.whole);
        fits = omega (arith, r.whole);
      }

-- an accepted packet is the one that the writer makes of its messages
pub accepted-is-written : AcceptedIsWritten
unfolding output_of
accepted-is-written rule p i e at out b h l =
    let r = read rule p i e at h in
    let es = packet_messages p in
    let a = read-accepted rule p b r (length out) l in
    let made = packet-read rule p b r in
    let total : total_of (length es) (bodies_in p) ≡ length p = sym (packet-length rule es (bodies_in p)) ∙ ap length made in
    record {
      answer = accepted es (bodies_in p) (length out) a ∙ ap Ok total;
      output = ap (λ (q : List ℕ). q ++ drop (length p) out) made;
      reads = rw made at (packet-reads-back rule es (bodies_in p) (length out) a);
    }
