-- What serving does with an office.
use Rattle.std.specs.Prelude.{◌≡◌, ◌*◌, ⊤, ℕ, List, [], ◌∷◌, Option, Result, MatchResult}
use Rattle.std.specs.Duration.{as_nanos}
use Rattle.std.specs.Net.Addr.{ipv4_octets}
use Rattle.std.specs.Net.Socket.{v4_ip, v4_port}
use Rattle.std.specs.declared.net.socket_addr.SocketAddr.{SocketAddr}
use Rattle.std.specs.declared.net.socket_addr.SocketAddr.TheVariants.{V4, V6}
use Rattle.std.specs.declared.time.Duration.{Duration}
use Rattle.reg_wire.specs.Exchange.{Call}
use Rattle.reg_http.specs.Meeting.{ServesInTurn}
use Rattle.reg_wire.specs.declared.response.Response.{Response}
use Rattle.reg_program.specs.declared.faults.Undone.{Undone}

-- the address is that of this port of loopback, 127.0.0.1
abbrev pub IsLoopback : SocketAddr → ℕ → Type 0
IsLoopback (V4 a) port = (ipv4_octets (v4_ip a) ≡ 127 ∷ 0 ∷ 0 ∷ 1 ∷ []) × (v4_port a ≡ port)
IsLoopback (V6 a) port = ⊥

-- ten seconds
abbrev pub IsPatience : Duration → Type 0
IsPatience patience = as_nanos patience ≡ 10 * 1000000000

-- they are so many connections at this port of loopback, and a peer has ten seconds to send its request,
-- and again to take the answer
pub record IsListener {P : Type 0} (Opened : SocketAddr → Duration → ℕ → P → Type 0) (port count : ℕ)
    (peers : P) : Type 0 where
  pub address : SocketAddr
  pub patience : Duration
  pub loopback : IsLoopback address port
  pub seconds : IsPatience patience
  pub opened : Opened address patience count peers

-- so many connections at this port are served in turn, and nothing else changes the office
pub record ServesOn {S P : Type 0} (Serves : S → Call → Response → S → Type 0)
    (Opened : SocketAddr → Duration → ℕ → P → Type 0)
    (blank : Option (List ℕ)) (coming written : P → Option (List (Option (List ℕ))))
    (readings later : Option (List (Option Duration))) (port count : ℕ) (before after : S) : Type 0
  where
    pub first : P
    pub last : P
    pub is_opened : IsListener Opened port count first
    pub answered : ℕ
    pub served : ServesInTurn Serves blank count answered (coming first) (coming last) readings later
        (written first) (written last) before after

-- they are served; or none is, and the office stays
abbrev pub ServesOrStays : {S P : Type 0} → (S → Call → Response → S → Type 0)
    → (SocketAddr → Duration → ℕ → P → Type 0) → Option (List ℕ) → (P → Option (List (Option (List ℕ))))
    → (P → Option (List (Option (List ℕ)))) → Option (List (Option Duration))
    → Option (List (Option Duration)) → S → S → Result ⊤ Undone → ℕ → ℕ → Type 0
ServesOrStays Serves Opened blank coming written readings later before after result port count =
    MatchResult result
    (λ _. ServesOn Serves Opened blank coming written readings later port count before after)
    (λ why. after ≡ before)
