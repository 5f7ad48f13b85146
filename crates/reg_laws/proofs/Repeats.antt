-- The same command again, at once and later.
pub mod RepeatsActOnce
pub mod RequestsStand
