mod Limit
mod Named
mod OneDigit
mod OneAsk
mod Asked
mod AllBytes
