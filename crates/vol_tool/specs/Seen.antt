-- What is seen of the outside before or after a call (this project's).
use Rattle.std.specs.Prelude.{◌≤◌, ℕ, Option}
use Rattle.vol_base.specs.Outside.{Draft, Objects, OnlyReads}
use Rattle.vol_spec.specs.Types.{Bytes}
use Rattle.command_base.specs.Outlets.{Outlets}
use Rattle.serve_cmd.specs.Servings.{doorway, Doorway, Ends}

-- how often each part of the outside failed
pub record Faults : Type 0 where
  pub store : ℕ
  pub feed : ℕ
  pub out : ℕ
  pub err : ℕ
  pub door : ℕ

-- the objects and the one being written, how many bytes were asked for, what is left of the feed, and what was written
-- to the two outlets, where they are told; the door, and how often each part failed
pub record Seen : Type 0 where
  pub objects : Option Objects
  pub draft : Option Draft
  pub asked : ℕ
  pub left : Option Bytes
  pub out : Option Bytes
  pub err : Option Bytes
  pub door : Doorway
  pub faults : Faults

-- the same by what a store, a feed, two outlets and a door tell
abbrev pub view : {S F O E D : Type 0} → (S → Option Objects) → (S → Option Draft) → (S → ℕ) → (S → ℕ) →
    (F → Option Bytes) → (F → ℕ)
    → (O → Option Bytes) → (O → ℕ) → (E → Option Bytes) → (E → ℕ) → (D → Option ℕ) → (D → ℕ) →
    (D → Option Ends) → (D → ℕ)
    → S → F → O → E → D → Seen
view objects draft asked store_faults left feed_faults out out_faults err err_faults bound accepted served
    door_faults s f o e d = record {
      objects = objects s;
      draft = draft s;
      asked = asked s;
      left = left f;
      out = out o;
      err = err e;
      door = doorway bound accepted served d;
      faults = record {
        store = store_faults s;
        feed = feed_faults f;
        out = out_faults o;
        err =
            err_faults e;
        door = door_faults d;
      };
    }

-- the two outlets before and after a call
abbrev pub outlets : Seen → Seen → Outlets
outlets before after = record {
  out_old = before.out;
  out_new = after.out;
  err_old = before.err;
  err_new = after.err;
  err_before = before.faults.err;
  err_now = after.faults.err;
}

-- a call that only reads a store: its objects and the one being written are as before
abbrev pub LeavesStore : Seen → Seen → Type 0
LeavesStore before after = OnlyReads before.objects after.objects before.draft after.draft

-- no count falls
pub record IsLater (before after : Faults) : Type 0 where
  pub store : before.store ≤ after.store
  pub feed : before.feed ≤ after.feed
  pub out : before.out ≤ after.out
  pub err : before.err ≤ after.err
  pub door : before.door ≤ after.door
