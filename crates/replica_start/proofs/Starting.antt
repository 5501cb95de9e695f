-- What an admitted fresh start makes of the lent memory.
use Rattle.std.proofs.Common.{ℕ, zero, suc, ◌≡◌, List, length, replicate, refl}
use Rattle.std.specs.Prelude.{Ok}
use Rattle.hermes_record.specs.declared.record.Record.{Record}
use Rattle.hermes.specs.declared.event.Replica.{Replica}
use Rattle.hermes.specs.declared.event.Settings.{Settings}
use Rattle.hermes.specs.Node.{newcomer, start_refusal, first_record, begin, start}

module _ (number view : ℕ) (settings : Settings) (table : List Record) (store : List ℕ) where
  pub start-admitted : (me : Replica) → (start number view settings table store).admission ≡ Ok me
      → ((start number view settings table store).table ≡ replicate (length table) (first_record view))
      × ((start number view settings table store).store ≡ replicate (length store) 0)
  unfolding start
  start-admitted me a = go (start_refusal number view settings (length table) (length store)) a
    where
      go : (k : ℕ) → (begin k (newcomer number view settings) table store).admission ≡ Ok me
          → ((begin k (newcomer number view settings) table store).table ≡ replicate (length table) (first_record view))
          × ((begin k (newcomer number view settings) table store).store ≡ replicate (length store) 0)
      go zero e = (refl, refl)
      go (suc k) e = absurd (cc)
